use Rattle.std.proofs.Common.{◌≡◌, ◌∙◌, map, take, string_bytes, sym, ap}
use Rattle.std.proofs.lemmas.List.{take-map}
use Rattle.prop_notes.proofs.notes.Notes.back.Goals as goal

pub returns : goal.returns
returns c =
    let n = c.self.inside in
    let domains : map string_bytes c.truncate.new.self.items ≡ take c.args.domains (map string_bytes n.domains.items) =
    ap (map string_bytes) c.truncate.ensures.items ∙ sym (take-map string_bytes c.args.domains n.domains.items) in
    rw (← c.self.view_is) (λ i. record {
      domains = domains i;
      definitions = c.truncate-2.ensures.items i;
      uses = c.truncate-3.ensures.items i;
    })
