-- What a piece is, found in the vocabulary.
use Rattle.std.proofs.Common.{◌≡◌, List, ℕ, refl, sym, Option, Some, None}
use Rattle.std.specs.Option.{option_map, option_map_or}
use Rattle.std.proofs.lemmas.Option.{none-some, same_Some}
use Rattle.prop_terms.specs.Tokens.{Token}

pub known_is : (found : Option (List ℕ × Token)) (token other : Token)
    → Some token ≡ option_map (λ known. known.1) found
    → token ≡ option_map_or (λ known. known.1) found other
known_is None token other e = absurd (none-some _ (sym e))
known_is (Some known) token other e = same_Some _ _ e

pub unknown_is : (found : Option (List ℕ × Token)) (other : Token) → None ≡ option_map (λ known. known.1) found
    → other ≡ option_map_or (λ known. known.1) found other
unknown_is None other e = refl
unknown_is (Some known) other e = absurd (none-some _ e)
