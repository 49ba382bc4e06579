-- The compounds, as lines of the language.
use Rattle.std.specs.Prelude.{◌≡◌, ℕ, List, [], ◌∷◌, codes, map}
use Rattle.prop_rows.specs.declared.prelude.TheConstants.{MORE, PRELUDE}

-- each line, byte by byte
abbrev pub prelude_lines : List (List ℕ)
prelude_lines =
    codes
    "define linear1 c1 x1 z = linear_sum1 c1 x1 z ; linear_term1 z c1 x1" ∷
    codes
    "define linear2 c1 x1 c2 x2 z = linear_sum2 c1 x1 c2 x2 z ; linear_term2 z c1 c2 x2 x1 ; linear_term2 z c2 c1 x1 x2" ∷
    codes
    "define linear3 c1 x1 c2 x2 c3 x3 z = linear_sum3 c1 x1 c2 x2 c3 x3 z ; linear_term3 z c1 c2 x2 c3 x3 x1 ; linear_term3 z c2 c1 x1 c3 x3 x2 ; linear_term3 z c3 c1 x1 c2 x2 x3" ∷
    codes
    "define linear4 c1 x1 c2 x2 c3 x3 c4 x4 z = linear_sum4 c1 x1 c2 x2 c3 x3 c4 x4 z ; linear_term4 z c1 c2 x2 c3 x3 c4 x4 x1 ; linear_term4 z c2 c1 x1 c3 x3 c4 x4 x2 ; linear_term4 z c3 c1 x1 c2 x2 c4 x4 x3 ; linear_term4 z c4 c1 x1 c2 x2 c3 x3 x4" ∷
    codes
    "define linear5 c1 x1 c2 x2 c3 x3 c4 x4 c5 x5 z = linear_sum5 c1 x1 c2 x2 c3 x3 c4 x4 c5 x5 z ; linear_term5 z c1 c2 x2 c3 x3 c4 x4 c5 x5 x1 ; linear_term5 z c2 c1 x1 c3 x3 c4 x4 c5 x5 x2 ; linear_term5 z c3 c1 x1 c2 x2 c4 x4 c5 x5 x3 ; linear_term5 z c4 c1 x1 c2 x2 c3 x3 c5 x5 x4 ; linear_term5 z c5 c1 x1 c2 x2 c3 x3 c4 x4 x5" ∷
    codes
    "define linear6 c1 x1 c2 x2 c3 x3 c4 x4 c5 x5 c6 x6 z = linear_sum6 c1 x1 c2 x2 c3 x3 c4 x4 c5 x5 c6 x6 z ; linear_term6 z c1 c2 x2 c3 x3 c4 x4 c5 x5 c6 x6 x1 ; linear_term6 z c2 c1 x1 c3 x3 c4 x4 c5 x5 c6 x6 x2 ; linear_term6 z c3 c1 x1 c2 x2 c4 x4 c5 x5 c6 x6 x3 ; linear_term6 z c4 c1 x1 c2 x2 c3 x3 c5 x5 c6 x6 x4 ; linear_term6 z c5 c1 x1 c2 x2 c3 x3 c4 x4 c6 x6 x5 ; linear_term6 z c6 c1 x1 c2 x2 c3 x3 c4 x4 c5 x5 x6" ∷
    codes
    "define linear7 c1 x1 c2 x2 c3 x3 c4 x4 c5 x5 c6 x6 c7 x7 z = linear_sum7 c1 x1 c2 x2 c3 x3 c4 x4 c5 x5 c6 x6 c7 x7 z ; linear_term7 z c1 c2 x2 c3 x3 c4 x4 c5 x5 c6 x6 c7 x7 x1 ; linear_term7 z c2 c1 x1 c3 x3 c4 x4 c5 x5 c6 x6 c7 x7 x2 ; linear_term7 z c3 c1 x1 c2 x2 c4 x4 c5 x5 c6 x6 c7 x7 x3 ; linear_term7 z c4 c1 x1 c2 x2 c3 x3 c5 x5 c6 x6 c7 x7 x4 ; linear_term7 z c5 c1 x1 c2 x2 c3 x3 c4 x4 c6 x6 c7 x7 x5 ; linear_term7 z c6 c1 x1 c2 x2 c3 x3 c4 x4 c5 x5 c7 x7 x6 ; linear_term7 z c7 c1 x1 c2 x2 c3 x3 c4 x4 c5 x5 c6 x6 x7" ∷
    codes
    "define linear8 c1 x1 c2 x2 c3 x3 c4 x4 c5 x5 c6 x6 c7 x7 c8 x8 z = linear_sum8 c1 x1 c2 x2 c3 x3 c4 x4 c5 x5 c6 x6 c7 x7 c8 x8 z ; linear_term8 z c1 c2 x2 c3 x3 c4 x4 c5 x5 c6 x6 c7 x7 c8 x8 x1 ; linear_term8 z c2 c1 x1 c3 x3 c4 x4 c5 x5 c6 x6 c7 x7 c8 x8 x2 ; linear_term8 z c3 c1 x1 c2 x2 c4 x4 c5 x5 c6 x6 c7 x7 c8 x8 x3 ; linear_term8 z c4 c1 x1 c2 x2 c3 x3 c5 x5 c6 x6 c7 x7 c8 x8 x4 ; linear_term8 z c5 c1 x1 c2 x2 c3 x3 c4 x4 c6 x6 c7 x7 c8 x8 x5 ; linear_term8 z c6 c1 x1 c2 x2 c3 x3 c4 x4 c5 x5 c7 x7 c8 x8 x6 ; linear_term8 z c7 c1 x1 c2 x2 c3 x3 c4 x4 c5 x5 c6 x6 c8 x8 x7 ; linear_term8 z c8 c1 x1 c2 x2 c3 x3 c4 x4 c5 x5 c6 x6 c7 x7 x8" ∷
    codes
    "define element2 i c1 c2 y = element_value2 i c1 c2 y ; element_number2 y i c1 c2 i" ∷
    codes
    "define element3 i c1 c2 c3 y = element_value3 i c1 c2 c3 y ; element_number3 y i c1 c2 c3 i" ∷
    codes
    "define element4 i c1 c2 c3 c4 y = element_value4 i c1 c2 c3 c4 y ; element_number4 y i c1 c2 c3 c4 i" ∷
    codes
    "define element5 i c1 c2 c3 c4 c5 y = element_value5 i c1 c2 c3 c4 c5 y ; element_number5 y i c1 c2 c3 c4 c5 i" ∷
    codes
    "define element6 i c1 c2 c3 c4 c5 c6 y = element_value6 i c1 c2 c3 c4 c5 c6 y ; element_number6 y i c1 c2 c3 c4 c5 c6 i" ∷
    codes
    "define element7 i c1 c2 c3 c4 c5 c6 c7 y = element_value7 i c1 c2 c3 c4 c5 c6 c7 y ; element_number7 y i c1 c2 c3 c4 c5 c6 c7 i" ∷
    codes
    "define element8 i c1 c2 c3 c4 c5 c6 c7 c8 y = element_value8 i c1 c2 c3 c4 c5 c6 c7 c8 y ; element_number8 y i c1 c2 c3 c4 c5 c6 c7 c8 i" ∷
    codes
    "define element9 i c1 c2 c3 c4 c5 c6 c7 c8 c9 y = element_value9 i c1 c2 c3 c4 c5 c6 c7 c8 c9 y ; element_number9 y i c1 c2 c3 c4 c5 c6 c7 c8 c9 i" ∷
    codes
    "define element10 i c1 c2 c3 c4 c5 c6 c7 c8 c9 c10 y = element_value10 i c1 c2 c3 c4 c5 c6 c7 c8 c9 c10 y ; element_number10 y i c1 c2 c3 c4 c5 c6 c7 c8 c9 c10 i" ∷
    codes
    "define element11 i c1 c2 c3 c4 c5 c6 c7 c8 c9 c10 c11 y = element_value11 i c1 c2 c3 c4 c5 c6 c7 c8 c9 c10 c11 y ; element_number11 y i c1 c2 c3 c4 c5 c6 c7 c8 c9 c10 c11 i" ∷
    codes
    "define element12 i c1 c2 c3 c4 c5 c6 c7 c8 c9 c10 c11 c12 y = element_value12 i c1 c2 c3 c4 c5 c6 c7 c8 c9 c10 c11 c12 y ; element_number12 y i c1 c2 c3 c4 c5 c6 c7 c8 c9 c10 c11 c12 i" ∷
    codes
    "define element13 i c1 c2 c3 c4 c5 c6 c7 c8 c9 c10 c11 c12 c13 y = element_value13 i c1 c2 c3 c4 c5 c6 c7 c8 c9 c10 c11 c12 c13 y ; element_number13 y i c1 c2 c3 c4 c5 c6 c7 c8 c9 c10 c11 c12 c13 i" ∷
    codes
    "define element14 i c1 c2 c3 c4 c5 c6 c7 c8 c9 c10 c11 c12 c13 c14 y = element_value14 i c1 c2 c3 c4 c5 c6 c7 c8 c9 c10 c11 c12 c13 c14 y ; element_number14 y i c1 c2 c3 c4 c5 c6 c7 c8 c9 c10 c11 c12 c13 c14 i" ∷
    codes
    "define element15 i c1 c2 c3 c4 c5 c6 c7 c8 c9 c10 c11 c12 c13 c14 c15 y = element_value15 i c1 c2 c3 c4 c5 c6 c7 c8 c9 c10 c11 c12 c13 c14 c15 y ; element_number15 y i c1 c2 c3 c4 c5 c6 c7 c8 c9 c10 c11 c12 c13 c14 c15 i" ∷
    codes
    "define element16 i c1 c2 c3 c4 c5 c6 c7 c8 c9 c10 c11 c12 c13 c14 c15 c16 y = element_value16 i c1 c2 c3 c4 c5 c6 c7 c8 c9 c10 c11 c12 c13 c14 c15 c16 y ; element_number16 y i c1 c2 c3 c4 c5 c6 c7 c8 c9 c10 c11 c12 c13 c14 c15 c16 i" ∷
    []

abbrev pub more_lines : List (List ℕ)
more_lines =
    codes
    "define count9 x1 x2 x3 x4 x5 x6 x7 x8 x9 n = counter9 x1 x2 x3 x4 x5 x6 x7 x8 x9 n ; count_back9 n x2 x3 x4 x5 x6 x7 x8 x9 x1 ; count_back9 n x1 x3 x4 x5 x6 x7 x8 x9 x2 ; count_back9 n x1 x2 x4 x5 x6 x7 x8 x9 x3 ; count_back9 n x1 x2 x3 x5 x6 x7 x8 x9 x4 ; count_back9 n x1 x2 x3 x4 x6 x7 x8 x9 x5 ; count_back9 n x1 x2 x3 x4 x5 x7 x8 x9 x6 ; count_back9 n x1 x2 x3 x4 x5 x6 x8 x9 x7 ; count_back9 n x1 x2 x3 x4 x5 x6 x7 x9 x8 ; count_back9 n x1 x2 x3 x4 x5 x6 x7 x8 x9" ∷
    codes
    "define count10 x1 x2 x3 x4 x5 x6 x7 x8 x9 x10 n = counter10 x1 x2 x3 x4 x5 x6 x7 x8 x9 x10 n ; count_back10 n x2 x3 x4 x5 x6 x7 x8 x9 x10 x1 ; count_back10 n x1 x3 x4 x5 x6 x7 x8 x9 x10 x2 ; count_back10 n x1 x2 x4 x5 x6 x7 x8 x9 x10 x3 ; count_back10 n x1 x2 x3 x5 x6 x7 x8 x9 x10 x4 ; count_back10 n x1 x2 x3 x4 x6 x7 x8 x9 x10 x5 ; count_back10 n x1 x2 x3 x4 x5 x7 x8 x9 x10 x6 ; count_back10 n x1 x2 x3 x4 x5 x6 x8 x9 x10 x7 ; count_back10 n x1 x2 x3 x4 x5 x6 x7 x9 x10 x8 ; count_back10 n x1 x2 x3 x4 x5 x6 x7 x8 x10 x9 ; count_back10 n x1 x2 x3 x4 x5 x6 x7 x8 x9 x10" ∷
    codes
    "define count11 x1 x2 x3 x4 x5 x6 x7 x8 x9 x10 x11 n = counter11 x1 x2 x3 x4 x5 x6 x7 x8 x9 x10 x11 n ; count_back11 n x2 x3 x4 x5 x6 x7 x8 x9 x10 x11 x1 ; count_back11 n x1 x3 x4 x5 x6 x7 x8 x9 x10 x11 x2 ; count_back11 n x1 x2 x4 x5 x6 x7 x8 x9 x10 x11 x3 ; count_back11 n x1 x2 x3 x5 x6 x7 x8 x9 x10 x11 x4 ; count_back11 n x1 x2 x3 x4 x6 x7 x8 x9 x10 x11 x5 ; count_back11 n x1 x2 x3 x4 x5 x7 x8 x9 x10 x11 x6 ; count_back11 n x1 x2 x3 x4 x5 x6 x8 x9 x10 x11 x7 ; count_back11 n x1 x2 x3 x4 x5 x6 x7 x9 x10 x11 x8 ; count_back11 n x1 x2 x3 x4 x5 x6 x7 x8 x10 x11 x9 ; count_back11 n x1 x2 x3 x4 x5 x6 x7 x8 x9 x11 x10 ; count_back11 n x1 x2 x3 x4 x5 x6 x7 x8 x9 x10 x11" ∷
    codes
    "define count12 x1 x2 x3 x4 x5 x6 x7 x8 x9 x10 x11 x12 n = counter12 x1 x2 x3 x4 x5 x6 x7 x8 x9 x10 x11 x12 n ; count_back12 n x2 x3 x4 x5 x6 x7 x8 x9 x10 x11 x12 x1 ; count_back12 n x1 x3 x4 x5 x6 x7 x8 x9 x10 x11 x12 x2 ; count_back12 n x1 x2 x4 x5 x6 x7 x8 x9 x10 x11 x12 x3 ; count_back12 n x1 x2 x3 x5 x6 x7 x8 x9 x10 x11 x12 x4 ; count_back12 n x1 x2 x3 x4 x6 x7 x8 x9 x10 x11 x12 x5 ; count_back12 n x1 x2 x3 x4 x5 x7 x8 x9 x10 x11 x12 x6 ; count_back12 n x1 x2 x3 x4 x5 x6 x8 x9 x10 x11 x12 x7 ; count_back12 n x1 x2 x3 x4 x5 x6 x7 x9 x10 x11 x12 x8 ; count_back12 n x1 x2 x3 x4 x5 x6 x7 x8 x10 x11 x12 x9 ; count_back12 n x1 x2 x3 x4 x5 x6 x7 x8 x9 x11 x12 x10 ; count_back12 n x1 x2 x3 x4 x5 x6 x7 x8 x9 x10 x12 x11 ; count_back12 n x1 x2 x3 x4 x5 x6 x7 x8 x9 x10 x11 x12" ∷
    codes
    "define count13 x1 x2 x3 x4 x5 x6 x7 x8 x9 x10 x11 x12 x13 n = counter13 x1 x2 x3 x4 x5 x6 x7 x8 x9 x10 x11 x12 x13 n ; count_back13 n x2 x3 x4 x5 x6 x7 x8 x9 x10 x11 x12 x13 x1 ; count_back13 n x1 x3 x4 x5 x6 x7 x8 x9 x10 x11 x12 x13 x2 ; count_back13 n x1 x2 x4 x5 x6 x7 x8 x9 x10 x11 x12 x13 x3 ; count_back13 n x1 x2 x3 x5 x6 x7 x8 x9 x10 x11 x12 x13 x4 ; count_back13 n x1 x2 x3 x4 x6 x7 x8 x9 x10 x11 x12 x13 x5 ; count_back13 n x1 x2 x3 x4 x5 x7 x8 x9 x10 x11 x12 x13 x6 ; count_back13 n x1 x2 x3 x4 x5 x6 x8 x9 x10 x11 x12 x13 x7 ; count_back13 n x1 x2 x3 x4 x5 x6 x7 x9 x10 x11 x12 x13 x8 ; count_back13 n x1 x2 x3 x4 x5 x6 x7 x8 x10 x11 x12 x13 x9 ; count_back13 n x1 x2 x3 x4 x5 x6 x7 x8 x9 x11 x12 x13 x10 ; count_back13 n x1 x2 x3 x4 x5 x6 x7 x8 x9 x10 x12 x13 x11 ; count_back13 n x1 x2 x3 x4 x5 x6 x7 x8 x9 x10 x11 x13 x12 ; count_back13 n x1 x2 x3 x4 x5 x6 x7 x8 x9 x10 x11 x12 x13" ∷
    codes
    "define count14 x1 x2 x3 x4 x5 x6 x7 x8 x9 x10 x11 x12 x13 x14 n = counter14 x1 x2 x3 x4 x5 x6 x7 x8 x9 x10 x11 x12 x13 x14 n ; count_back14 n x2 x3 x4 x5 x6 x7 x8 x9 x10 x11 x12 x13 x14 x1 ; count_back14 n x1 x3 x4 x5 x6 x7 x8 x9 x10 x11 x12 x13 x14 x2 ; count_back14 n x1 x2 x4 x5 x6 x7 x8 x9 x10 x11 x12 x13 x14 x3 ; count_back14 n x1 x2 x3 x5 x6 x7 x8 x9 x10 x11 x12 x13 x14 x4 ; count_back14 n x1 x2 x3 x4 x6 x7 x8 x9 x10 x11 x12 x13 x14 x5 ; count_back14 n x1 x2 x3 x4 x5 x7 x8 x9 x10 x11 x12 x13 x14 x6 ; count_back14 n x1 x2 x3 x4 x5 x6 x8 x9 x10 x11 x12 x13 x14 x7 ; count_back14 n x1 x2 x3 x4 x5 x6 x7 x9 x10 x11 x12 x13 x14 x8 ; count_back14 n x1 x2 x3 x4 x5 x6 x7 x8 x10 x11 x12 x13 x14 x9 ; count_back14 n x1 x2 x3 x4 x5 x6 x7 x8 x9 x11 x12 x13 x14 x10 ; count_back14 n x1 x2 x3 x4 x5 x6 x7 x8 x9 x10 x12 x13 x14 x11 ; count_back14 n x1 x2 x3 x4 x5 x6 x7 x8 x9 x10 x11 x13 x14 x12 ; count_back14 n x1 x2 x3 x4 x5 x6 x7 x8 x9 x10 x11 x12 x14 x13 ; count_back14 n x1 x2 x3 x4 x5 x6 x7 x8 x9 x10 x11 x12 x13 x14" ∷
    codes
    "define count15 x1 x2 x3 x4 x5 x6 x7 x8 x9 x10 x11 x12 x13 x14 x15 n = counter15 x1 x2 x3 x4 x5 x6 x7 x8 x9 x10 x11 x12 x13 x14 x15 n ; count_back15 n x2 x3 x4 x5 x6 x7 x8 x9 x10 x11 x12 x13 x14 x15 x1 ; count_back15 n x1 x3 x4 x5 x6 x7 x8 x9 x10 x11 x12 x13 x14 x15 x2 ; count_back15 n x1 x2 x4 x5 x6 x7 x8 x9 x10 x11 x12 x13 x14 x15 x3 ; count_back15 n x1 x2 x3 x5 x6 x7 x8 x9 x10 x11 x12 x13 x14 x15 x4 ; count_back15 n x1 x2 x3 x4 x6 x7 x8 x9 x10 x11 x12 x13 x14 x15 x5 ; count_back15 n x1 x2 x3 x4 x5 x7 x8 x9 x10 x11 x12 x13 x14 x15 x6 ; count_back15 n x1 x2 x3 x4 x5 x6 x8 x9 x10 x11 x12 x13 x14 x15 x7 ; count_back15 n x1 x2 x3 x4 x5 x6 x7 x9 x10 x11 x12 x13 x14 x15 x8 ; count_back15 n x1 x2 x3 x4 x5 x6 x7 x8 x10 x11 x12 x13 x14 x15 x9 ; count_back15 n x1 x2 x3 x4 x5 x6 x7 x8 x9 x11 x12 x13 x14 x15 x10 ; count_back15 n x1 x2 x3 x4 x5 x6 x7 x8 x9 x10 x12 x13 x14 x15 x11 ; count_back15 n x1 x2 x3 x4 x5 x6 x7 x8 x9 x10 x11 x13 x14 x15 x12 ; count_back15 n x1 x2 x3 x4 x5 x6 x7 x8 x9 x10 x11 x12 x14 x15 x13 ; count_back15 n x1 x2 x3 x4 x5 x6 x7 x8 x9 x10 x11 x12 x13 x15 x14 ; count_back15 n x1 x2 x3 x4 x5 x6 x7 x8 x9 x10 x11 x12 x13 x14 x15" ∷
    codes
    "define count16 x1 x2 x3 x4 x5 x6 x7 x8 x9 x10 x11 x12 x13 x14 x15 x16 n = counter16 x1 x2 x3 x4 x5 x6 x7 x8 x9 x10 x11 x12 x13 x14 x15 x16 n ; count_back16 n x2 x3 x4 x5 x6 x7 x8 x9 x10 x11 x12 x13 x14 x15 x16 x1 ; count_back16 n x1 x3 x4 x5 x6 x7 x8 x9 x10 x11 x12 x13 x14 x15 x16 x2 ; count_back16 n x1 x2 x4 x5 x6 x7 x8 x9 x10 x11 x12 x13 x14 x15 x16 x3 ; count_back16 n x1 x2 x3 x5 x6 x7 x8 x9 x10 x11 x12 x13 x14 x15 x16 x4 ; count_back16 n x1 x2 x3 x4 x6 x7 x8 x9 x10 x11 x12 x13 x14 x15 x16 x5 ; count_back16 n x1 x2 x3 x4 x5 x7 x8 x9 x10 x11 x12 x13 x14 x15 x16 x6 ; count_back16 n x1 x2 x3 x4 x5 x6 x8 x9 x10 x11 x12 x13 x14 x15 x16 x7 ; count_back16 n x1 x2 x3 x4 x5 x6 x7 x9 x10 x11 x12 x13 x14 x15 x16 x8 ; count_back16 n x1 x2 x3 x4 x5 x6 x7 x8 x10 x11 x12 x13 x14 x15 x16 x9 ; count_back16 n x1 x2 x3 x4 x5 x6 x7 x8 x9 x11 x12 x13 x14 x15 x16 x10 ; count_back16 n x1 x2 x3 x4 x5 x6 x7 x8 x9 x10 x12 x13 x14 x15 x16 x11 ; count_back16 n x1 x2 x3 x4 x5 x6 x7 x8 x9 x10 x11 x13 x14 x15 x16 x12 ; count_back16 n x1 x2 x3 x4 x5 x6 x7 x8 x9 x10 x11 x12 x14 x15 x16 x13 ; count_back16 n x1 x2 x3 x4 x5 x6 x7 x8 x9 x10 x11 x12 x13 x15 x16 x14 ; count_back16 n x1 x2 x3 x4 x5 x6 x7 x8 x9 x10 x11 x12 x13 x14 x16 x15 ; count_back16 n x1 x2 x3 x4 x5 x6 x7 x8 x9 x10 x11 x12 x13 x14 x15 x16" ∷
    codes
    "define max3 x1 x2 x3 z = maximizer3 x1 x2 x3 z ; max_back3 z x2 x3 x1 ; max_back3 z x1 x3 x2 ; max_back3 z x1 x2 x3" ∷
    codes
    "define max4 x1 x2 x3 x4 z = maximizer4 x1 x2 x3 x4 z ; max_back4 z x2 x3 x4 x1 ; max_back4 z x1 x3 x4 x2 ; max_back4 z x1 x2 x4 x3 ; max_back4 z x1 x2 x3 x4" ∷
    codes
    "define max5 x1 x2 x3 x4 x5 z = maximizer5 x1 x2 x3 x4 x5 z ; max_back5 z x2 x3 x4 x5 x1 ; max_back5 z x1 x3 x4 x5 x2 ; max_back5 z x1 x2 x4 x5 x3 ; max_back5 z x1 x2 x3 x5 x4 ; max_back5 z x1 x2 x3 x4 x5" ∷
    codes
    "define max6 x1 x2 x3 x4 x5 x6 z = maximizer6 x1 x2 x3 x4 x5 x6 z ; max_back6 z x2 x3 x4 x5 x6 x1 ; max_back6 z x1 x3 x4 x5 x6 x2 ; max_back6 z x1 x2 x4 x5 x6 x3 ; max_back6 z x1 x2 x3 x5 x6 x4 ; max_back6 z x1 x2 x3 x4 x6 x5 ; max_back6 z x1 x2 x3 x4 x5 x6" ∷
    codes
    "define max7 x1 x2 x3 x4 x5 x6 x7 z = maximizer7 x1 x2 x3 x4 x5 x6 x7 z ; max_back7 z x2 x3 x4 x5 x6 x7 x1 ; max_back7 z x1 x3 x4 x5 x6 x7 x2 ; max_back7 z x1 x2 x4 x5 x6 x7 x3 ; max_back7 z x1 x2 x3 x5 x6 x7 x4 ; max_back7 z x1 x2 x3 x4 x6 x7 x5 ; max_back7 z x1 x2 x3 x4 x5 x7 x6 ; max_back7 z x1 x2 x3 x4 x5 x6 x7" ∷
    codes
    "define max8 x1 x2 x3 x4 x5 x6 x7 x8 z = maximizer8 x1 x2 x3 x4 x5 x6 x7 x8 z ; max_back8 z x2 x3 x4 x5 x6 x7 x8 x1 ; max_back8 z x1 x3 x4 x5 x6 x7 x8 x2 ; max_back8 z x1 x2 x4 x5 x6 x7 x8 x3 ; max_back8 z x1 x2 x3 x5 x6 x7 x8 x4 ; max_back8 z x1 x2 x3 x4 x6 x7 x8 x5 ; max_back8 z x1 x2 x3 x4 x5 x7 x8 x6 ; max_back8 z x1 x2 x3 x4 x5 x6 x8 x7 ; max_back8 z x1 x2 x3 x4 x5 x6 x7 x8" ∷
    codes
    "define min3 x1 x2 x3 z = minimizer3 x1 x2 x3 z ; min_back3 z x2 x3 x1 ; min_back3 z x1 x3 x2 ; min_back3 z x1 x2 x3" ∷
    codes
    "define min4 x1 x2 x3 x4 z = minimizer4 x1 x2 x3 x4 z ; min_back4 z x2 x3 x4 x1 ; min_back4 z x1 x3 x4 x2 ; min_back4 z x1 x2 x4 x3 ; min_back4 z x1 x2 x3 x4" ∷
    codes
    "define min5 x1 x2 x3 x4 x5 z = minimizer5 x1 x2 x3 x4 x5 z ; min_back5 z x2 x3 x4 x5 x1 ; min_back5 z x1 x3 x4 x5 x2 ; min_back5 z x1 x2 x4 x5 x3 ; min_back5 z x1 x2 x3 x5 x4 ; min_back5 z x1 x2 x3 x4 x5" ∷
    codes
    "define min6 x1 x2 x3 x4 x5 x6 z = minimizer6 x1 x2 x3 x4 x5 x6 z ; min_back6 z x2 x3 x4 x5 x6 x1 ; min_back6 z x1 x3 x4 x5 x6 x2 ; min_back6 z x1 x2 x4 x5 x6 x3 ; min_back6 z x1 x2 x3 x5 x6 x4 ; min_back6 z x1 x2 x3 x4 x6 x5 ; min_back6 z x1 x2 x3 x4 x5 x6" ∷
    codes
    "define min7 x1 x2 x3 x4 x5 x6 x7 z = minimizer7 x1 x2 x3 x4 x5 x6 x7 z ; min_back7 z x2 x3 x4 x5 x6 x7 x1 ; min_back7 z x1 x3 x4 x5 x6 x7 x2 ; min_back7 z x1 x2 x4 x5 x6 x7 x3 ; min_back7 z x1 x2 x3 x5 x6 x7 x4 ; min_back7 z x1 x2 x3 x4 x6 x7 x5 ; min_back7 z x1 x2 x3 x4 x5 x7 x6 ; min_back7 z x1 x2 x3 x4 x5 x6 x7" ∷
    codes
    "define min8 x1 x2 x3 x4 x5 x6 x7 x8 z = minimizer8 x1 x2 x3 x4 x5 x6 x7 x8 z ; min_back8 z x2 x3 x4 x5 x6 x7 x8 x1 ; min_back8 z x1 x3 x4 x5 x6 x7 x8 x2 ; min_back8 z x1 x2 x4 x5 x6 x7 x8 x3 ; min_back8 z x1 x2 x3 x5 x6 x7 x8 x4 ; min_back8 z x1 x2 x3 x4 x6 x7 x8 x5 ; min_back8 z x1 x2 x3 x4 x5 x7 x8 x6 ; min_back8 z x1 x2 x3 x4 x5 x6 x8 x7 ; min_back8 z x1 x2 x3 x4 x5 x6 x7 x8" ∷
    []

-- the program's own lines are these
abbrev pub PreludeIsStated : Type 0
PreludeIsStated = map (λ line. line.now) PRELUDE ≡ prelude_lines

abbrev pub MoreIsStated : Type 0
MoreIsStated = map (λ line. line.now) MORE ≡ more_lines
