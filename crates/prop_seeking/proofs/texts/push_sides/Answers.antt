use Rattle.std.proofs.Common.{◌≡◌, ◌∙◌, ◌++◌, ◌∷◌, [], ℕ, map, length, take, ap, sym, subst}
use Rattle.std.specs.List.{zip}
use Rattle.std.proofs.lemmas.List.{map-append, length_push}
use Rattle.std.specs.String.{string_bytes}
use Rattle.std.proofs.lemmas.Slice.Zip.{zip_turn, zip_end}
use Rattle.prop_premises.specs.Origins.{choices_of}
use Rattle.prop_premises.specs.declared.choice.Choice.{Choice}
use Rattle.prop_premises.specs.ChoiceLists.{hypothetical}
use Rattle.prop_texts.specs.inner.Listed.{label_at}
use Rattle.prop_seeking.proofs.SeekLemmas.{pairs_more, pairs_all}
use Rattle.prop_seeking.proofs.texts.push_sides.Goals as goal

pub loop-choice-preserved : goal.loop-choice-preserved
loop-choice-preserved c =
    let ks = choices_of c.args.premises.now in
    let vs = c.args.sides.now in
    let t = zip_turn ks vs c.loop-choice.yielded c.into_iter-choice-iterator.result c.loop-choice.choice-iterator
    c.next.new.self c.next.result (cc) (cc) c.loop-choice.yielded_by
    (c.in-Some.choice, c.in-Some.side) c.in-Some.is c.next.ensures.steps in
    let more : map string_bytes c.push.new.self.items ≡ map string_bytes c.loop-choice.lines.items
    ++ string_bytes c.in_ok-side_text.field-0 ∷ [] = ap (map string_bytes) c.in_ok-push.ensures.items
    ∙ map-append string_bytes c.loop-choice.lines.items (c.in_ok-side_text.field-0 ∷ []) in
    subst (λ (n : ℕ). map string_bytes c.push.new.self.items ≡ map string_bytes c.args.lines.now.items
    ++ map (λ (p : Choice × ℕ). label_at c.args.premises.now (hypothetical p.0 p.1)) (take n (zip ks vs)))
    (sym (length_push c.loop-choice.yielded (c.in-Some.choice, c.in-Some.side)))
    (pairs_more (λ (p : Choice × ℕ). label_at c.args.premises.now (hypothetical p.0 p.1)) ks vs
    (map string_bytes c.args.lines.now.items) (map string_bytes c.loop-choice.lines.items)
    (map string_bytes c.push.new.self.items) (length c.loop-choice.yielded) c.in-Some.choice.now c.in-Some.side.now
    (string_bytes c.in_ok-side_text.field-0) t.0 t.1 (t.2 _) (t.3 _) c.loop-choice.invariant more
    c.in_ok-side_text.ensures)

pub returns : goal.returns
returns c =
    let ks = choices_of c.args.premises.now in
    let vs = c.args.sides.now in
    let n = zip_end ks vs c.loop-choice.yielded c.into_iter-choice-iterator.result c.loop-choice.choice-iterator
    c.next.new.self c.next.result (cc) (cc) c.loop-choice.yielded_by c.in-None.is c.next.ensures.steps in
    pairs_all (λ (p : Choice × ℕ). label_at c.args.premises.now (hypothetical p.0 p.1)) ks vs
    (map string_bytes c.args.lines.now.items) (map string_bytes c.loop-choice.lines.items)
    (length c.loop-choice.yielded) n c.loop-choice.invariant
