-- How a line falls into its parts, from its end.
use Rattle.std.specs.Prelude.{ℕ, List, [], ◌∷◌, cond, codes, bytes_eq, Option, Some, None}
use Rattle.std.specs.List.{list_all}
use Rattle.std.specs.Option.{option_map, option_map_or}
use Rattle.prop_requiring.specs.Asking.{is_space}

-- the bytes without the spaces at their end
abbrev pub trimmed : List ℕ → List ℕ
trimmed [] = []
trimmed (b ∷ bytes) = cond (list_all is_space (b ∷ bytes)) [] (b ∷ trimmed bytes)

-- what stands before the last space, and what behind it; nothing where there is no space
abbrev pub cut : List ℕ → Option (List ℕ × List ℕ)
cut [] = None
cut (b ∷ bytes) = option_map_or (λ parts. Some (b ∷ parts.0, parts.1))
    (cut bytes) (cond (is_space b) (Some ([], bytes)) None)

-- what stands before the space before the last word, where that word is `under`
abbrev pub before_under : List ℕ → Option (List ℕ)
before_under bytes = option_map_or
    (λ parts. cond (bytes_eq parts.1 (codes "under")) (Some parts.0) None)
    (cut (trimmed bytes)) None

-- what stands before `under` and the last word, and that word, where the bytes end so
abbrev pub under_word : List ℕ → Option (List ℕ × List ℕ)
under_word bytes = option_map_or
    (λ parts. option_map (λ text. (text, parts.1)) (before_under parts.0))
    (cut (trimmed bytes)) None
