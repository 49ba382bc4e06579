use Rattle.std.proofs.Common.{◌≡◌, ◌<◌, ◌++◌, ◌∷◌, All, length, map, flat_map, codes, decimal, string_bytes}
use Rattle.std.specs.List.{AllByRecursion}
use Rattle.prop_texts.specs.Texts.{support_text}
use Rattle.prop_texts.proofs.nogoods.nogoods_text.Given as goal

abbrev pub invariant-loop-nogood : goal.invariant-loop-nogood
invariant-loop-nogood l = record {
  so_far : map (λ n. n.now) l.yielded ++ l.nogood-iterator ≡ l.store;
  text : string_bytes l.text ≡ (codes "nogoods " ++ decimal (length l.store)) ++ flat_map
      (λ n. 10 ∷ codes "nogood:" ++ support_text l.premises n) (map (λ n. n.now) l.yielded);
  known : AllByRecursion (λ nogood. All (λ p. p < length l.premises) nogood) l.nogood-iterator;
}
