-- The steps by which what a use stands for is made: the fresh cells, then the parameters, then the instances.
use Rattle.std.proofs.Common.{◌≡◌, ◌∙◌, ℕ, List, [], ◌++◌, Result, Ok, Err, OnOk, All, map, drop, length, ◌≤◌, ◌+◌, ap}
use Rattle.std.proofs.Common.{arith}
use Rattle.std.specs.Prelude.{⊤}
use Rattle.std.proofs.Math.Seq.{drop-append_seam}
use Rattle.std.proofs.lemmas.List.{length-append}
use Rattle.prop_refusals.specs.declared.refusal.Refusal.{Refusal}
use Rattle.prop_procedures.specs.declared.flat.Placed as flats
use Rattle.prop_procedures.specs.declared.flat.Flat.{Flat}
use Rattle.prop_procedures.specs.declared.shape.Kinded.{Kinded}
use Rattle.prop_procedures.specs.Stored.{Stored}
use Rattle.prop_cells.specs.Data.{Data}
use Rattle.prop_scheduler.specs.Making.{made_of, with_fresh_cells, with_flat, MayBeMade}

module _ (library library' : List Stored) (d one two : Data) (cells : List ℕ) (next first : ℕ) (flat : Flat)
    (fresh : List Kinded) (instances : List flats.Placed)
    (same_library : library' ≡ library) (next_is : next ≡ length d.kinds) (first_is : first ≡ length d.params)
    (same_fresh : fresh ≡ flat.fresh.items) (same_instances : instances ≡ flat.instances.items)
    (with_fresh : one ≡ with_fresh_cells d fresh)
    (with_params : two ≡ record one { params = one.params ++ flat.params.items }) where
  both : two ≡ record d {
    kinds = d.kinds ++ flat.fresh.items;
    contents = d.contents ++ map (λ k. []) flat.fresh.items;
    params = d.params ++ flat.params.items;
  }
  both =
      let all_fresh : one ≡ with_fresh_cells d flat.fresh.items = with_fresh ∙ ap (with_fresh_cells d) same_fresh in
      with_params ∙ ap (λ (x : Data). record x { params = x.params ++ flat.params.items }) all_fresh

  behind : drop first two.params ≡ flat.params.items
  behind = (λ i. drop (first_is i) (both i).params) ∙ drop-append_seam d.params flat.params.items

  pub first_there : first ≤ length two.params
  first_there =
      let all : length two.params ≡ length (d.params ++ flat.params.items) = ap (λ (x : Data). length x.params) both in
      let more = length-append d.params flat.params.items in
      omega (arith, all, more, first_is)

  pub each_may : All (MayBeMade library (d.kinds ++ flat.fresh.items) flat.params.items cells (length d.kinds))
      flat.instances.items → All (MayBeMade library' two.kinds (drop first two.params) cells next) instances
  each_may may =
      let kinds : two.kinds ≡ d.kinds ++ flat.fresh.items = ap (λ (x : Data). x.kinds) both in
      rw (same_library, kinds, behind, next_is, same_instances) may

  pub room_for : (most : ℕ) → length d.instances + length flat.instances.items ≤ most
      → length two.instances + length instances ≤ most
  room_for most few =
      let old : length two.instances ≡ length d.instances = ap (λ (x : Data). length x.instances) both in
      let new : length instances ≡ length flat.instances.items = ap length same_instances in
      omega (arith, old, new, few)

  pub all_made : (r : Result ⊤ Refusal) (new : Data)
      → OnOk r (new ≡ record two {
        instances = two.instances ++ map
            (made_of library' (drop first two.params) cells next) instances;
      }) → OnOk r (new ≡ with_flat library d cells flat)
  all_made (Ok u) new e = e ∙ (λ i. record (both i) {
    instances = (both i).instances ++ map
        (made_of (same_library i) (behind i) cells (next_is i)) (same_instances i);
  })
  all_made (Err refusal) new e = tt
