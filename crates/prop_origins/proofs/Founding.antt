-- What is founded.
use Rattle.std.proofs.Common.{◌≡◌, ◌∙◌, ◌==◌, ◌||◌, ℕ, Bool, true, false, IsTrue, List, [], ◌∷◌, refl, sym, ap, subst}
use Rattle.std.proofs.Common.{if◌then◌else◌, inl, inr, map, length, Some, All, slice_get, arith}
use Rattle.std.specs.List.{list_any}
use Rattle.std.proofs.lemmas.Bool.Decides.{eqb_tells}
use Rattle.std.proofs.lemmas.Option.{get_or_from_slice_get}
use Rattle.std.proofs.lemmas.List.Elements.{All-cons, All-weaker, All-head, All-tail}
use Rattle.prop_lattice.specs.declared.info.Info.{Info}
use Rattle.prop_lattice.specs.Order.{Below, merge_of}
use Rattle.prop_lattice.specs.Rank.{IsOf}
use Rattle.prop_numbers.specs.Sets.{set_of, IsSame}
use Rattle.prop_procedures.specs.declared.shape.Kinded.{Kinded}
use Rattle.prop_procedures.specs.Stored.{Stored, IsLawful, span_kind}
use Rattle.prop_procedures.specs.Fitting.{kind_at}
use Rattle.prop_contents.specs.Contents.{support_of}
use Rattle.prop_cells.specs.declared.instance.Statement.{Statement}
use Rattle.prop_cells.specs.Problems.{is_member, value_at}
use Rattle.prop_cells.specs.inner.Problems.{Premises, AreOfKinds, value_on}
use Rattle.prop_cells.specs.Instances.{Instance, IsFitting, IsWithin, constraint_of}
use Rattle.prop_cells.specs.Data.{Data, IsKept}
use Rattle.prop_cells.proofs.Fixpoint.{map_agree}
use Rattle.prop_cells.proofs.Fitted.{merge_of_kind, value_of_kind}
use Rattle.prop_cells.proofs.Keeping.{All-at}
use Rattle.prop_origins.specs.declared.part.Origin.{Origin}
use Rattle.prop_origins.specs.declared.part.Origin.TheVariants.{Told, Called}
use Rattle.prop_origins.specs.Parts.{Part, made, rests_on, reads}
use Rattle.prop_origins.specs.Founded.{IsFrom, IsFounded, AreFounded, MakeUp}
use Rattle.prop_origins.specs.Pruned.{pruned}
use Rattle.prop_origins.proofs.LogLaws.{same_test}
use Rattle.prop_origins.proofs.PrunedLaws.{or_first, or_second, wanted_behind, pruned_made, pruned_rests}
use Rattle.prop_origins.proofs.PrunedLaws.{pruned_wanted}

-- ---- what founded parts say is of the cells' kinds

founded_of_kind : (library : List Stored) (d : Data) (s : Premises) (ps : List Part) → AreFounded library d s ps
    → (cell : ℕ) (k : Kinded) → slice_get d.kinds cell ≡ Some k → IsOf k.kind k.size (made ps cell)
founded_of_kind library d s [] f cell k at = tt
founded_of_kind library d s (p ∷ ps) f cell k at =
    let before = founded_of_kind library d s ps f.1 cell k at in
    elim (eqb_tells p.cell cell) as (λ _. IsOf k.kind k.size (made (p ∷ ps) cell)) [
      | inl own ↦
          (let here = subst (λ (c : ℕ). IsOf (kind_at d.kinds c).kind (kind_at d.kinds c).size p.value) own.1
          f.0.of_kind in
          let value = subst (λ (q : Kinded). IsOf q.kind q.size p.value)
          (get_or_from_slice_get d.kinds cell k span_kind at) here in
          subst (λ (b : Bool). IsOf k.kind k.size (if b then merge_of (made ps cell) p.value else made ps cell))
          (sym own.0) (merge_of_kind k.kind k.size (made ps cell) p.value before value))
      | inr other ↦
          subst (λ (b : Bool). IsOf k.kind k.size (if b then merge_of (made ps cell) p.value else made ps cell))
          (sym other.0) before
    ]

pub founded_of_kinds : (library : List Stored) (d : Data) (s : Premises) (ps : List Part) → AreFounded library d s ps
    → AreOfKinds d.kinds (made ps)
founded_of_kinds library d s ps f = record { of_kind = founded_of_kind library d s ps f }

-- ---- one more part

pub told_founded : (library : List Stored) (d : Data) (s : Premises) (ps : List Part) (n : ℕ) (x : Statement) (p : Part)
    → slice_get d.statements n ≡ Some x → IsTrue (is_member s x.premise) → p ≡ record {
      origin = Told n;
      cell = x.cell;
      inputs = [];
      args = [];
      value = x.info;
      support = support_of x.premise;
    } → IsOf (kind_at d.kinds x.cell).kind (kind_at d.kinds x.cell).size x.info
    → ¬ (Below x.info (made ps x.cell)) → AreFounded library d s ps → AreFounded library d s (p ∷ ps)
told_founded library d s ps n x p at member is of_kind more f =
    subst (λ (q : Part). AreFounded library d s (q ∷ ps)) (sym is) (
      record {
        from = record { statement = x; at = at; member = member; is = refl };
        of_kind = of_kind;
        more = more;
      },
      f,
    )

pub called_founded : (library : List Stored) (d : Data) (s : Premises) (ps : List Part) (n : ℕ) (x : Instance)
    (args : List Info) (v : Info) (support : List ℕ) (p : Part) → All IsLawful library → IsKept library d
    → AreOfKinds d.kinds (made ps) → slice_get d.instances n ≡ Some x → p ≡ record {
      origin = Called n;
      cell = x.output;
      inputs = x.inputs;
      args = args;
      value = v;
      support = support;
    } → args ≡ map (made ps) x.inputs → v ≡ value_at (constraint_of library x) (made ps)
    → ¬ (Below v (made ps x.output)) → IsSame (set_of support) (λ q. list_any (λ input. rests_on ps input q) x.inputs)
    → AreFounded library d s ps → AreFounded library d s (p ∷ ps)
called_founded library d s ps n x args v support p law kept kinds at is same value more rests f =
    let fits = All-at (IsFitting library d.kinds) d.instances n x kept.fits at in
    let within = All-at (IsWithin (length d.kinds)) d.instances n x kept.made.within at in
    let of_kind = value_of_kind library fits.procedure d.kinds x (made ps) fits.at
    (All-at IsLawful library x.procedure fits.procedure law fits.at) fits.fits within kinds in
    subst (λ (q : Part). AreFounded library d s (q ∷ ps)) (sym is) (
      record {
        from = record {
          instance = x;
          at = at;
          cell = refl;
          inputs = refl;
          args = same;
          value = value;
          support = rests;
        };
        of_kind = subst (λ (w : Info). IsOf (kind_at d.kinds x.output).kind (kind_at d.kinds x.output).size w)
            (sym value) of_kind;
        more = more;
      },
      f,
    )

-- ---- what is left after pruning

-- what a part reads is wanted behind it
reads_all : (wanted : ℕ → Bool) (inputs : List ℕ)
    → ((c : ℕ) → list_any (λ input. input == c) inputs ≡ true → wanted c ≡ true)
    → All (λ c. wanted c ≡ true) inputs
reads_all wanted [] h = λ k d l. absurd (omega (arith, l))
reads_all wanted (c ∷ cs) h =
    All-cons (λ d. wanted d ≡ true) c cs
    (h c (or_first (c == c) (list_any (λ input. input == c) cs) (same_test c)))
    (reads_all wanted cs (λ d t. h d (or_second (c == d) (list_any (λ input. input == d) cs) t)))

any_agree : (f g : ℕ → Bool) (cs : List ℕ) → All (λ c. f c ≡ g c) cs → list_any f cs ≡ list_any g cs
any_agree f g [] h = refl
any_agree f g (c ∷ cs) h =
    ap (λ (b : Bool). b || list_any f cs) (All-head (λ k. f k ≡ g k) c cs h)
    ∙ ap (λ (b : Bool). g c || b) (any_agree f g cs (All-tail (λ k. f k ≡ g k) c cs h))

all_wanted : (wanted : ℕ → Bool) (p : Part) (inputs : List ℕ) → p.inputs ≡ inputs
    → All (λ c. wanted_behind wanted p c ≡ true) inputs
all_wanted wanted p inputs is =
    subst (λ (cs : List ℕ). All (λ c. wanted_behind wanted p c ≡ true) cs) is
    (reads_all (wanted_behind wanted p) p.inputs (λ c t. or_second (wanted c) (reads p c) t))

from_kept : (library : List Stored) (d : Data) (s : Premises) (wanted : ℕ → Bool) (p : Part) (ps : List Part)
    (o : Origin) → IsFrom library d s ps p o → IsFrom library d s (pruned (wanted_behind wanted p) ps) p o
from_kept library d s wanted p ps (Told n) h = h
from_kept library d s wanted p ps (Called n) h =
    let w = wanted_behind wanted p in
    let x = h.instance in
    let read = all_wanted wanted p x.inputs h.inputs in
    let same : map (made ps) x.inputs ≡ map (made (pruned w ps)) x.inputs =
    map_agree (made ps) (made (pruned w ps)) x.inputs
    (All-weaker (λ c. w c ≡ true) (λ c. made ps c ≡ made (pruned w ps) c) (λ c t. sym (pruned_made w ps c t))
    x.inputs read) in
    record {
      instance = x;
      at = h.at;
      cell = h.cell;
      inputs = h.inputs;
      args = h.args ∙ same;
      value = h.value ∙ ap (λ (args : List Info). value_on (constraint_of library x).rule args) same;
      support = λ q. h.support q
          ∙ any_agree (λ input. rests_on ps input q) (λ input. rests_on (pruned w ps) input q) x.inputs
          (All-weaker (λ c. w c ≡ true) (λ c. rests_on ps c q ≡ rests_on (pruned w ps) c q)
          (λ c t. sym (pruned_rests w ps c q t)) x.inputs read);
    }

founded_by : (library : List Stored) (d : Data) (s : Premises) (wanted : ℕ → Bool) (p : Part) (ps : List Part)
    (b : Bool)
    → wanted p.cell ≡ b → IsFounded library d s ps p → AreFounded library d s (pruned (wanted_behind wanted p) ps)
    → AreFounded library d s (pruned wanted ps) →
    AreFounded library d s (if b then p ∷ pruned (wanted_behind wanted p) ps else pruned wanted ps)
founded_by library d s wanted p ps true on f kept left = (
  record {
    from = from_kept library d s wanted p ps p.origin f.from;
    of_kind = f.of_kind;
    more = λ below. f.more (subst (λ (v : Info). Below p.value v)
        (pruned_made (wanted_behind wanted p) ps p.cell (or_first (wanted p.cell) (reads p p.cell) on)) below);
  },
  kept,
)
founded_by library d s wanted p ps false off f kept left = left

-- the parts that are left are founded
pub pruned_founded : (library : List Stored) (d : Data) (s : Premises) (wanted : ℕ → Bool) (ps : List Part)
    → AreFounded library d s ps → AreFounded library d s (pruned wanted ps)
pruned_founded library d s wanted [] f = tt
pruned_founded library d s wanted (p ∷ ps) f =
    founded_by library d s wanted p ps (wanted p.cell) refl f.0
    (pruned_founded library d s (wanted_behind wanted p) ps f.1) (pruned_founded library d s wanted ps f.1)

-- those that are at the cell, or read from there on, make up what all said of it
pub made_up : (library : List Stored) (d : Data) (s : Premises) (cell : ℕ) (v : Info) (ps : List Part)
    → AreFounded library d s ps → Below v (made ps cell)
    → MakeUp library d s cell v (pruned (λ c. c == cell) ps)
made_up library d s cell v ps founded enough = record {
  founded = pruned_founded library d s (λ c. c == cell) ps founded;
  enough = subst (λ (w : Info). Below v w) (sym (pruned_made (λ c. c == cell) ps cell (same_test cell))) enough;
  wanted = pruned_wanted (λ c. c == cell) ps;
}
