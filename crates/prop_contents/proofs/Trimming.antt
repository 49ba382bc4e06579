-- Entries of a cell that go.
use Rattle.std.proofs.Common.{◌≡◌, ◌∙◌, ℕ, ◌<◌, IsTrue, Contains, List, [], length, slice_index_or, slice_set, ap}
use Rattle.std.proofs.Common.{arith}
use Rattle.std.proofs.lemmas.List.{get_or_default, get_or-set_other, get_or-set_same, length-set}
use Rattle.prop_lattice.specs.declared.info.Info.TheVariants.{Nothing}
use Rattle.prop_lattice.specs.Order.{merge_of}
use Rattle.prop_numbers.specs.Sets.{Members, is_at_most_one_of}
use Rattle.prop_tms.specs.Beliefs.{belief_of, Trims}
use Rattle.prop_contents.specs.Contents.{Entry, content_of}
use Rattle.prop_contents.specs.Changes.{TrimsAt, derived_of, most_derived}

pub trims_at : (s told : Members) (contents : List (List Entry)) (cell : ℕ) (old new : List Entry)
    → cell < length contents → old ≡ slice_index_or contents cell old → most_derived < length (derived_of told old)
    → Trims Nothing merge_of told s old new →
    TrimsAt s told contents (slice_set contents cell new) cell
trims_at s told contents cell old new l at many t =
    let is : old ≡ content_of contents cell = at ∙ get_or_default contents cell old [] l in
    let now : content_of (slice_set contents cell new) cell ≡ new = get_or-set_same contents cell new [] l in
    record {
      same_length = length-set contents cell new;
      among = rw (now, ← is) t.among;
      belief = ap (belief_of Nothing merge_of s) now ∙ t.belief ∙ ap (belief_of Nothing merge_of s) is;
      few = λ le. let n = ap (λ es. length (derived_of told es)) is in absurd (omega (arith, n, le, many));
      others = λ c ne. get_or-set_other contents cell c new [] ne;
    }

pub trim_keeps : (s told : Members) (contents : List (List Entry)) (cell : ℕ) (old new : List Entry)
    → cell < length contents → old ≡ slice_index_or contents cell old → Trims Nothing merge_of told s old new →
    (e : Entry) → Contains (content_of contents cell) e → IsTrue (is_at_most_one_of told e.support)
    → Contains (content_of (slice_set contents cell new) cell) e
trim_keeps s told contents cell old new l at t e c is_told =
    let is : old ≡ content_of contents cell = at ∙ get_or_default contents cell old [] l in
    rw (get_or-set_same contents cell new [] l) (t.kept e (rw (← is) at c) is_told)

-- what is read at a place that there is
pub read_there : {X : Type 0} (xs : List X) (i : ℕ) (x d : X) → i < length xs → x ≡ slice_index_or xs i x
    → x ≡ slice_index_or xs i d
read_there xs i x d l at = at ∙ get_or_default xs i x d l
