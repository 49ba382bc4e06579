-- The procedures that the program makes, one after another.
use Rattle.std.proofs.Common.{◌≡◌, ◌∙◌, ℕ, zero, suc, ◌+◌, ◌<◌, ◌≤◌, ap, List, [], ◌∷◌, ◌++◌, length, map, take, get_or}
use Rattle.std.proofs.Common.{refl, sym, subst, arith, All, lit≤}
use Rattle.std.proofs.lemmas.List.{append_assoc, take_more, take_all, map-append, length-map, get_or-map}
use Rattle.std.proofs.lemmas.List.Elements.{All-head, All-tail, All-map, All-append}
use Rattle.std.proofs.lemmas.Option.{none-some, same_Some}
use Rattle.std.specs.Borrow.{Bor}
use Rattle.std.specs.Prelude.{Some, slice_get}
use Rattle.prop_language.specs.Said.{words}
use Rattle.prop_procedures.specs.declared.both.Both.TheVariants as boths
use Rattle.prop_procedures.specs.declared.procedure.Procedure.{Procedure}
use Rattle.prop_procedures.specs.declared.shape.Need.{Need}
use Rattle.prop_procedures.specs.declared.shape.Shape.{Shape}
use Rattle.prop_procedures.specs.Both.{either_of}
use Rattle.prop_procedures.specs.Forms.{form, related_in, stored_rule}
use Rattle.prop_procedures.specs.Kept.{stored_as}
use Rattle.prop_procedures.specs.Rules.{IsSound}
use Rattle.prop_procedures.specs.Stored.{Stored}
use Rattle.prop_procedures.specs.laws.Both.{either_sound}
use Rattle.prop_arith.specs.declared.kit.Kit.{Kit}
use Rattle.prop_arith.specs.Kit.{in_order as kits, form_of, FormOf as KitForm}
use Rattle.prop_arith.specs.Points.{Related as KitRelated}
use Rattle.prop_arith.specs.Values.{value_of as kit_value}
use Rattle.prop_arith.specs.laws.KitLaws.{kit_few, kit_formed, kit_sound}
use Rattle.prop_wide.specs.declared.wide.Wide.{Wide}
use Rattle.prop_wide.specs.Points.{Related as WideRelated}
use Rattle.prop_wide.specs.Procedures.{Named, IsFormed as IsWideFormed, in_order as named}
use Rattle.prop_wide.specs.Values.{value_of as wide_value}
use Rattle.prop_wide.specs.Wide.{FormOf as WideForm, need_of, out_of}
use Rattle.prop_wide.specs.laws.WideLaws.{wide_sound}
use Rattle.prop_wide.proofs.Tables.{all_from}
use Rattle.prop_hall.specs.declared.excluder.Excluder.{Excluder}
use Rattle.prop_hall.specs.Excluder.{FormOf as ExcluderForm, in_order as excluders, ins_of, name_of}
use Rattle.prop_hall.specs.Excluder.{need_of as excluder_need, out_of as excluder_out}
use Rattle.prop_hall.specs.Excluder.{Related as ExcluderRelated, value_of as excluder_value}
use Rattle.prop_hall.specs.declared.excluder.Excluder.TheVariants.{One, Two, Three, Four, Five, Six, Seven, Eight}
use Rattle.prop_hall.specs.laws.ExcluderLaws.{excluder_sound}
use Rattle.prop_many.specs.declared.many.Many.{Many}
use Rattle.prop_many.specs.Many.{FormOf as ManyForm, Related as ManyRelated, value_of as many_value}
use Rattle.prop_many.specs.Procedures.{IsFormed as IsManyFormed, Named as ManyNamed}
use Rattle.prop_many.specs.Procedures.{circuits_in_order as circuits_named, in_order as many_named}
use Rattle.prop_many.specs.Procedures.{tasks_in_order as tasks_named}
use Rattle.prop_many.specs.laws.ManyLaws.{many_sound}
use Rattle.prop_many.proofs.Tables.{each_circuit_formed, each_formed, each_task_formed}
use Rattle.prop_rows.proofs.ExactLaws.{rows_are_exact}
use Rattle.prop_rows.proofs.TableLemmas.{all_formed as all_rows_formed, others_formed}
use Rattle.prop_rows.specs.Procedures.{IsFormed as IsRowFormed, Named as RowNamed, in_order as row_named}
use Rattle.prop_rows.specs.Procedures.{counts_in_order as counts_named, greatest_in_order as greatest_named}
use Rattle.prop_rows.specs.Procedures.{ins_of as row_ins, least_in_order as least_named}
use Rattle.prop_rows.specs.Row.{FormOf as RowForm, Related as RowRelated, out_of as row_out, value_of as row_value}
use Rattle.prop_procedures.specs.declared.shape.Need.TheVariants as needs
use Rattle.prop_rows.specs.declared.row.Row.{Row}
use Rattle.prop_rows.specs.laws.RowLaws.{row_sound}
use Rattle.prop_cells.specs.Points.{AreSoundBy}
use Rattle.prop_points.specs.Networks.{AreExactBy, SinglesSolve}
use Rattle.prop_points.specs.Singles.{IsExact}
use Rattle.prop_points.proofs.ExcluderLaws.{excluders_are_exact}
use Rattle.prop_points.proofs.KitLaws.{kit_is_exact}
use Rattle.prop_points.proofs.NetworkLaws.{singles_solve}
use Rattle.prop_points.proofs.WideLaws.{wide_is_exact}
use Rattle.propwide.specs.Kits.{Larger, LargerRelated, Mixed, Made, answer_of, RelatedBy, of_kit, of_wide}
use Rattle.propwide.specs.Kits.{of_excluder, of_many, of_rows, in_order, larger_of, shown, wide, wide_related}
use Rattle.propwide.specs.Kits.{wide_tells, wider_of, TellsBy}
use Rattle.propwide.specs.declared.entries.Entry.{Entry}
use Rattle.propwide.proofs.Singles.{many_are_exact}

-- the forms of a larger rule
abbrev pub LargerForm : Larger → List Shape → Shape → Need → Type 0
LargerForm = either_of ExcluderForm (either_of ManyForm RowForm)

-- the forms of a rule
abbrev pub FormBy : Mixed → List Shape → Shape → Need → Type 0
FormBy = either_of KitForm (either_of WideForm LargerForm)

-- a procedure has 1 to 384 inputs, in a form that its rule has
pub record IsFormed (p : Made) : Type 0 where
  pub some : 1 ≤ length p.form.ins
  pub few : length p.form.ins ≤ 384
  pub formed : FormBy p.rule p.form.ins p.form.out p.form.need

kit_made : (rule : Kit) → IsFormed (of_kit rule)
kit_made rule =
    let few = kit_few rule in record { some = few.0; few = omega (arith, few.1); formed = kit_formed rule }

wide_made : (p : Named) → IsWideFormed p → IsFormed (of_wide p)
wide_made p h = let few = h.few in record {
  some = h.some;
  few = omega (arith, few);
  formed = (h.has_inputs, refl, refl);
}

wides_formed : All IsWideFormed named
wides_formed = all_from IsWideFormed named (
  record { has_inputs = refl; some = lit≤ tt; few = lit≤ tt },
  (
    record { has_inputs = refl; some = lit≤ tt; few = lit≤ tt },
    (
      record { has_inputs = refl; some = lit≤ tt; few = lit≤ tt },
      (
        record { has_inputs = refl; some = lit≤ tt; few = lit≤ tt },
        (
          record { has_inputs = refl; some = lit≤ tt; few = lit≤ tt },
          (
            record { has_inputs = refl; some = lit≤ tt; few = lit≤ tt },
            (
              record { has_inputs = refl; some = lit≤ tt; few = lit≤ tt },
              (
                record { has_inputs = refl; some = lit≤ tt; few = lit≤ tt },
                (
                  record { has_inputs = refl; some = lit≤ tt; few = lit≤ tt },
                  (
                    record { has_inputs = refl; some = lit≤ tt; few = lit≤ tt },
                    (
                      record { has_inputs = refl; some = lit≤ tt; few = lit≤ tt },
                      (
                        record { has_inputs = refl; some = lit≤ tt; few = lit≤ tt },
                        (
                          record { has_inputs = refl; some = lit≤ tt; few = lit≤ tt },
                          (
                            record { has_inputs = refl; some = lit≤ tt; few = lit≤ tt },
                            (
                              record { has_inputs = refl; some = lit≤ tt; few = lit≤ tt },
                              (
                                record { has_inputs = refl; some = lit≤ tt; few = lit≤ tt },
                                (
                                  record { has_inputs = (refl, refl); some = lit≤ tt; few = lit≤ tt },
                                  (
                                    record { has_inputs = (refl, refl); some = lit≤ tt; few = lit≤ tt },
                                    (
                                      record { has_inputs = (refl, refl); some = lit≤ tt; few = lit≤ tt },
                                      (
                                        record { has_inputs = (refl, refl); some = lit≤ tt; few = lit≤ tt },
                                        (
                                          record { has_inputs = (refl, refl); some = lit≤ tt; few = lit≤ tt },
                                          (
                                            record { has_inputs = (refl, refl); some = lit≤ tt; few = lit≤ tt },
                                            (
                                              record { has_inputs = (refl, refl); some = lit≤ tt; few = lit≤ tt },
                                              (
                                                record { has_inputs = (refl, refl); some = lit≤ tt; few = lit≤ tt },
                                                (
                                                  record { has_inputs = refl; some = lit≤ tt; few = lit≤ tt },
                                                  (
                                                    record { has_inputs = refl; some = lit≤ tt; few = lit≤ tt },
                                                    (
                                                      record { has_inputs = refl; some = lit≤ tt; few = lit≤ tt },
                                                      (
                                                        record { has_inputs = refl; some = lit≤ tt; few = lit≤ tt },
                                                        (
                                                          record { has_inputs = refl; some = lit≤ tt; few = lit≤ tt },
                                                          tt,
                                                        ),
                                                      ),
                                                    ),
                                                  ),
                                                ),
                                              ),
                                            ),
                                          ),
                                        ),
                                      ),
                                    ),
                                  ),
                                ),
                              ),
                            ),
                          ),
                        ),
                      ),
                    ),
                  ),
                ),
              ),
            ),
          ),
        ),
      ),
    ),
  ),
)

excluder_made : (rule : Excluder) → IsFormed (of_excluder rule)
excluder_made rule = record { some = few.0; few = few.1; formed = (refl, refl, refl) }
  where
    few_of : (rule : Excluder) → (1 ≤ length (ins_of rule)) × (length (ins_of rule) ≤ 384)
    few_of One = (omega arith, omega arith)
    few_of Two = (omega arith, omega arith)
    few_of Three = (omega arith, omega arith)
    few_of Four = (omega arith, omega arith)
    few_of Five = (omega arith, omega arith)
    few_of Six = (omega arith, omega arith)
    few_of Seven = (omega arith, omega arith)
    few_of Eight = (omega arith, omega arith)

    few : (1 ≤ length (ins_of rule)) × (length (ins_of rule) ≤ 384)
    few = few_of rule

many_made : (p : ManyNamed) → IsManyFormed p → IsFormed (of_many p)
many_made p h = record { some = h.some; few = h.few; formed = (h.has_inputs, refl, refl) }

rows_made : (p : RowNamed) → IsRowFormed p → IsFormed (of_rows p)
rows_made p h =
    let few = h.formed.3 in record { some = h.some; few = omega (arith, few); formed = h.formed }

-- those of many cells and of rows
manys_formed : (named : List ManyNamed) → All IsManyFormed named → All IsFormed (map of_many named)
manys_formed named h = All-map IsFormed of_many named (λ k d l. many_made (get_or named k d) (h k d l))

rows_formed : (named : List RowNamed) → All IsRowFormed named → All IsFormed (map of_rows named)
rows_formed named h = All-map IsFormed of_rows named (λ k d l. rows_made (get_or named k d) (h k d l))

abbrev ends_made : List Made
ends_made = map of_rows greatest_named ++ map of_rows least_named

abbrev counts_made : List Made
counts_made = map of_rows counts_named ++ ends_made

abbrev rows_made_on : List Made
rows_made_on = map of_rows row_named ++ counts_made

abbrev circuits_made : List Made
circuits_made = map of_many circuits_named ++ rows_made_on

abbrev tasks_made : List Made
tasks_made = map of_many tasks_named ++ circuits_made

last_formed : All IsFormed (map of_many many_named ++ tasks_made)
last_formed =
    All-append IsFormed (map of_many many_named) tasks_made
    (manys_formed many_named each_formed)
    (All-append IsFormed (map of_many tasks_named) circuits_made
    (manys_formed tasks_named each_task_formed)
    (All-append IsFormed (map of_many circuits_named) rows_made_on
    (manys_formed circuits_named each_circuit_formed)
    (All-append IsFormed (map of_rows row_named) counts_made (rows_formed row_named all_rows_formed)
    (All-append IsFormed (map of_rows counts_named) ends_made
    (rows_formed counts_named others_formed.0)
    (All-append IsFormed (map of_rows greatest_named) (map of_rows least_named)
    (rows_formed greatest_named others_formed.1) (rows_formed least_named others_formed.2))))))

abbrev lasts_made : List Made
lasts_made = map of_many many_named ++ tasks_made

abbrev excluders_made : List Made
excluders_made = map of_excluder excluders ++ lasts_made

abbrev wides_made : List Made
wides_made = map of_wide named ++ excluders_made

pub all_formed : All IsFormed in_order
all_formed = All-append IsFormed (map of_kit kits) wides_made
    (All-map IsFormed of_kit kits (λ k d l. kit_made (get_or kits k d)))
    (All-append IsFormed (map of_wide named) excluders_made
    (All-map IsFormed of_wide named (λ k d l. wide_made (get_or named k d) (wides_formed k d l)))
    (All-append IsFormed (map of_excluder excluders) lasts_made
    (All-map IsFormed of_excluder excluders (λ k d l. excluder_made (get_or excluders k d)))
    last_formed))

-- what the program makes a procedure of is formed
pub entry_formed : (items : List Entry) (i : ℕ) (d : Entry) → map shown items ≡ in_order → i < length items
    → IsFormed (shown (get_or items i d))
entry_formed items i d e l = subst IsFormed (get_or-map shown items i d (shown d) l)
    (subst (All IsFormed) (sym e) all_formed i (shown d) (omega (arith, l, length-map items shown)))

-- of these parts a procedure is made
abbrev pub made_of : List ℕ → List Shape → Shape → Need → Mixed → Made
made_of name ins out need rule = record { form = form name ins out need; rule = rule }

pub kit_shown : {n : List ℕ} {i : List Shape} {o : Shape} {d : Need} → (rule : Kit) → n ≡ (form_of rule).name
    → i ≡ (form_of rule).ins → o ≡ (form_of rule).out → d ≡ (form_of rule).need
    → made_of n i o d (boths.One rule) ≡ of_kit rule
kit_shown rule n i o d = rw (n, i, o, d) refl

pub wide_shown : {o : Shape} {d : Need} → (n : List ℕ) (i : List Shape) (rule : Wide) → o ≡ out_of rule
    → d ≡ need_of rule
    → made_of n i o d (boths.Two (boths.One rule)) ≡ of_wide (record { name = n; rule = rule; ins = i })
wide_shown n i rule o d = rw (o, d) refl

pub excluder_shown : {n : List ℕ} {i : List Shape} {o : Shape} {d : Need} → (rule : Excluder) → n ≡ name_of rule
    → i ≡ ins_of rule → o ≡ excluder_out rule → d ≡ excluder_need rule
    → made_of n i o d (boths.Two (boths.Two (boths.One rule))) ≡ of_excluder rule
excluder_shown rule n i o d = rw (n, i, o, d) refl

-- what a row of the table is made into
abbrev pub of_row : Bor (List ℕ) × Wide × Bor (List Shape) → Made
of_row row = of_wide (record { name = row.0.now; rule = row.1; ins = row.2.now })

-- the rows are made into what the specification lists
pub rows_are : (rows : List (Bor (List ℕ) × Wide × Bor (List Shape)))
    → map of_row rows ≡ map of_wide (map (λ p. record { name = p.0.now; rule = p.1; ins = p.2.now }) rows)
rows_are [] = refl
rows_are (r ∷ rest) = ap (λ ms. of_row r ∷ ms) (rows_are rest)

-- what a row of the table of procedures of many cells is made into
abbrev pub of_many_row : Bor (List ℕ) × Many × Bor (List Shape) → Made
of_many_row row = of_many (record { name = row.0.now; rule = row.1; ins = row.2.now })

many_rows_are : (rows : List (Bor (List ℕ) × Many × Bor (List Shape)))
    → map of_many_row rows ≡ map of_many (map (λ p. record { name = p.0.now; rule = p.1; ins = p.2.now }) rows)
many_rows_are [] = refl
many_rows_are (r ∷ rest) = ap (λ ms. of_many_row r ∷ ms) (many_rows_are rest)

pub from_many_rows : (items : List Entry) (front : List Made) (i : ℕ)
    (rows : List (Bor (List ℕ) × Many × Bor (List Shape))) (stated : List ManyNamed)
    → map shown items ≡ front ++ map of_many_row (take i rows) → length rows ≤ i
    → map (λ p. record { name = p.0.now; rule = p.1; ins = p.2.now }) rows ≡ stated
    → map shown items ≡ front ++ map of_many stated
from_many_rows items front i rows stated h l s = h ∙ ap (λ rs. front ++ map of_many_row rs) (take_all i rows l)
    ∙ ap (λ ms. front ++ ms) (many_rows_are rows ∙ ap (map of_many) s)

-- what a row of the table of procedures of rows is made into
abbrev pub of_row_row : Bor (List ℕ) × Row × ℕ → Made
of_row_row row = of_rows (record { name = row.0.now; rule = row.1; many = row.2 })

pub row_shown : {i : List Shape} {o : Shape} → (n : List ℕ) (rule : Row) (many : ℕ) → i ≡ row_ins rule many
    → o ≡ row_out rule → made_of n i o needs.Nothing (boths.Two (boths.Two (boths.Two (boths.Two rule))))
    ≡ of_rows (record { name = n; rule = rule; many = many })
row_shown n rule many i o = rw (i, o) refl

row_rows_are : (rows : List (Bor (List ℕ) × Row × ℕ))
    → map of_row_row rows ≡ map of_rows (map (λ p. record { name = p.0.now; rule = p.1; many = p.2 }) rows)
row_rows_are [] = refl
row_rows_are (r ∷ rest) = ap (λ ms. of_row_row r ∷ ms) (row_rows_are rest)

pub from_row_rows : (items : List Entry) (front : List Made) (i : ℕ) (rows : List (Bor (List ℕ) × Row × ℕ))
    (stated : List RowNamed) → map shown items ≡ front ++ map of_row_row (take i rows) → length rows ≤ i
    → map (λ p. record { name = p.0.now; rule = p.1; many = p.2 }) rows ≡ stated
    → map shown items ≡ front ++ map of_rows stated
from_row_rows items front i rows stated h l s = h ∙ ap (λ rs. front ++ map of_row_row rs) (take_all i rows l)
    ∙ ap (λ ms. front ++ ms) (row_rows_are rows ∙ ap (map of_rows) s)

-- lines that are joined one list after another
pub joined : (a b c d e f g p q r s t u : List (Bor (List ℕ))) (k l m n o v : List (List ℕ)) → a ≡ []
    → b ≡ a ++ p → c ≡ b ++ q → d ≡ c ++ r → e ≡ d ++ s → f ≡ e ++ t → g ≡ f ++ u → words p ≡ k → words q ≡ l
    → words r ≡ m → words s ≡ n → words t ≡ o → words u ≡ v → words g ≡ k ++ (l ++ (m ++ (n ++ (o ++ v))))
joined a b c d e f g p q r s t u k l m n o v ea eb ec ed ee ef eg ep eq er es et eu =
    ap words (eg ∙ ap (λ x. x ++ u) (ef ∙ ap (λ x. x ++ t) (ee ∙ ap (λ x. x ++ s) (ed ∙ ap (λ x. x ++ r)
    (ec ∙ ap (λ x. x ++ q) (eb ∙ ap (λ x. x ++ p) ea)))))) ∙ flat p q r s t u
    ∙ (λ i. ep i ++ (eq i ++ (er i ++ (es i ++ (et i ++ eu i)))))
  where
    flat : (p q r s t u : List (Bor (List ℕ))) → words (((((p ++ q) ++ r) ++ s) ++ t) ++ u)
        ≡ words p ++ (words q ++ (words r ++ (words s ++ (words t ++ words u))))
    flat p q r s t u = ap words (append_assoc (((p ++ q) ++ r) ++ s) t u ∙ append_assoc ((p ++ q) ++ r) s (t ++ u)
        ∙ append_assoc (p ++ q) r (s ++ (t ++ u)) ∙ append_assoc p q (r ++ (s ++ (t ++ u)))) ∙ rw (
          map-append (λ (w : Bor (List ℕ)). w.now) p (q ++ (r ++ (s ++ (t ++ u)))),
          map-append (λ (w : Bor (List ℕ)). w.now) q (r ++ (s ++ (t ++ u))),
          map-append (λ (w : Bor (List ℕ)). w.now) r (s ++ (t ++ u)),
          map-append (λ (w : Bor (List ℕ)). w.now) s (t ++ u),
          map-append (λ (w : Bor (List ℕ)). w.now) t u,
        ) refl

-- where each row had its turn, what the specification lists is made
pub from_rows : (items : List Entry) (front : List Made) (i : ℕ)
    (rows : List (Bor (List ℕ) × Wide × Bor (List Shape))) (stated : List Named)
    → map shown items ≡ front ++ map of_row (take i rows) → length rows ≤ i
    → map (λ p. record { name = p.0.now; rule = p.1; ins = p.2.now }) rows ≡ stated
    → map shown items ≡ front ++ map of_wide stated
from_rows items front i rows stated h l s = h ∙ ap (λ rs. front ++ map of_row rs) (take_all i rows l)
    ∙ ap (λ ms. front ++ ms) (rows_are rows ∙ ap (map of_wide) s)

-- the procedure of what it is made of
abbrev pub stored_made : Made → Stored
stored_made = stored_rule (λ p. p.form) (λ p. answer_of p.rule)

-- a procedure with the form and the value of an entry
pub stored_is : {X : Type 0} {F : X → Type 0} {g : _} → (p : Procedure Mixed X F g) (e : Entry)
    → p.name.now ≡ e.name.now → p.ins.items ≡ e.ins.now → p.out ≡ e.out → p.need ≡ e.need → p.rule ≡ e.rule
    → stored_as answer_of p ≡ stored_made (shown e)
stored_is p e n i o d r = rw (n, i, o, d, r) refl

-- one more item is that of one more
pub more : {A B C : Type 0} (f : A → C) (g : B → C) (items all : List A) (a : A) (bs : List B) (i : ℕ) (d : B)
    (front : List C) → all ≡ items ++ a ∷ [] → i < length bs → f a ≡ g (get_or bs i d)
    → map f items ≡ front ++ map g (take i bs) → map f all ≡ front ++ map g (take (i + 1) bs)
more f g items all a bs i d front e l s h =
    rw (e, map-append f items (a ∷ []), h, s, take_more bs i d l, map-append g (take i bs) (get_or bs i d ∷ []))
    (append_assoc front (map g (take i bs)) (g (get_or bs i d) ∷ []))

-- where each had its turn, all are listed
pub all_stored : (items : List Entry) (n : ℕ) → length items ≤ n → map shown items ≡ in_order
    → map (λ e. stored_made (shown e)) (take n items) ≡ wide
all_stored items n l e = ap (map (λ e. stored_made (shown e))) (take_all n items l) ∙ by items ∙ ap (map stored_made) e
  where
    by : (items : List Entry) → map (λ e. stored_made (shown e)) items ≡ map stored_made (map shown items)
    by [] = refl
    by (e ∷ rest) = ap (λ ps. stored_made (shown e) ∷ ps) (by rest)

-- what holds of procedures and lines holds of the same, put otherwise
pub with_both : (P : List Stored → List (List ℕ) → Type 0) (library known : List Stored) (prelude lines : List (List ℕ))
    → library ≡ known → prelude ≡ lines → P library prelude → P known lines
with_both P library known prelude lines l p h = subst (λ k. P k lines) l (subst (λ q. P library q) p h)

-- each rule's answers hold the points that it relates
larger_sound : (rule : Larger) (ins : List Shape) (out : Shape) (need : Need) → LargerForm rule ins out need
    → IsSound (larger_of rule) (LargerRelated rule) ins out need
larger_sound = either_sound ExcluderForm (either_of ManyForm RowForm) excluder_value (either_of many_value row_value)
    ExcluderRelated (either_of ManyRelated RowRelated) excluder_sound
    (either_sound ManyForm RowForm many_value row_value ManyRelated RowRelated many_sound row_sound)

mixed_sound : (rule : Mixed) (ins : List Shape) (out : Shape) (need : Need) → FormBy rule ins out need
    → IsSound (answer_of rule) (RelatedBy rule) ins out need
mixed_sound = either_sound KitForm (either_of WideForm LargerForm) kit_value wider_of
    KitRelated (either_of WideRelated LargerRelated) kit_sound
    (either_sound WideForm LargerForm wide_value larger_of WideRelated LargerRelated wide_sound larger_sound)

pub wide_is_sound : AreSoundBy wide wide_related
wide_is_sound n p at = by in_order all_formed n p at
  where
    by : (made : List Made) → All IsFormed made → (n : ℕ) (p : Stored) → slice_get (map stored_made made) n ≡ Some p
        → IsSound p.value (related_in (λ m. RelatedBy m.rule) made n) p.ins p.out p.need
    by [] h n p at = absurd (none-some p at)
    by (m ∷ rest) h zero p at = let same : stored_made m ≡ p = same_Some (stored_made m) p at in rw (← same)
        (mixed_sound m.rule m.form.ins m.form.out m.form.need (All-head IsFormed m rest h).formed)
    by (m ∷ rest) h (suc k) p at = by rest (All-tail IsFormed m rest h) k p at

-- of single points each rule answers those alone that it is sure of
mixed_exact : (rule : Mixed) (ins : List Shape) (out : Shape) (need : Need) → FormBy rule ins out need
    → IsExact (answer_of rule) (TellsBy rule) ins out need
mixed_exact (boths.One rule) = kit_is_exact rule
mixed_exact (boths.Two (boths.One rule)) = wide_is_exact rule
mixed_exact (boths.Two (boths.Two (boths.One rule))) = excluders_are_exact rule
mixed_exact (boths.Two (boths.Two (boths.Two (boths.One rule)))) = many_are_exact rule
mixed_exact (boths.Two (boths.Two (boths.Two (boths.Two rule)))) = rows_are_exact rule

wide_exact : AreExactBy wide wide_tells
wide_exact n p at = by in_order all_formed n p at
  where
    by : (made : List Made) → All IsFormed made → (n : ℕ) (p : Stored) → slice_get (map stored_made made) n ≡ Some p
        → IsExact p.value (related_in (λ m. TellsBy m.rule) made n) p.ins p.out p.need
    by [] h n p at = absurd (none-some p at)
    by (m ∷ rest) h zero p at = let same : stored_made m ≡ p = same_Some (stored_made m) p at in rw (← same)
        (mixed_exact m.rule m.form.ins m.form.out m.form.need (All-head IsFormed m rest h).formed)
    by (m ∷ rest) h (suc k) p at = by rest (All-tail IsFormed m rest h) k p at

pub wide_solves : SinglesSolve wide wide_tells
wide_solves = singles_solve wide wide_tells wide_exact
