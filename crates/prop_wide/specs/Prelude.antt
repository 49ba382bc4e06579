-- The compounds over the kit's procedures and these, as lines of the language.
use Rattle.std.specs.Prelude.{◌≡◌, ℕ, List, [], ◌∷◌, codes, map}
use Rattle.prop_wide.specs.declared.prelude.TheConstants.{PRELUDE, DIFFERENT}

-- each line, byte by byte
abbrev pub prelude_lines : List (List ℕ)
prelude_lines =
    codes
    "define max x y z = maximizer x y z ; max_back z y x ; max_back z x y" ∷
    codes
    "define min x y z = minimizer x y z ; min_back z y x ; min_back z x y" ∷
    codes
    "define abs x y = absoluter x y ; abs_back y x x" ∷
    codes
    "define if t a b o = local n truth ; not t n ; chooser t a b o ; decider a b o t ; passer t o a ; passer n o b" ∷
    codes
    "define scaled_square x y = scaled_squarer x y by * ; scaled_rooter y x x by *" ∷
    codes
    "define divide x y q r = local p span ; quotienter x y q ; product q y p ; sum p r x ; remainderer y r ; divisor_back r y y" ∷
    codes
    "define quotient x y q = local r span ; divide x y q r" ∷
    codes
    "define remainder x y r = local q span ; divide x y q r" ∷
    codes
    "define euclid_divide x y q r = local d span ; local e span ; local f span ; local p span ; abs y d ; quotienter x d e ; product e d p ; product q y p ; abs q f ; abs e f ; sum p r x ; remainderer d r ; divisor_back r d d" ∷
    codes
    "define euclid_quotient x y q = local r span ; euclid_divide x y q r" ∷
    codes
    "define euclid_remainder x y r = local q span ; euclid_divide x y q r" ∷
    codes
    "define count1 a n = counter1 a n ; count_back1 n a" ∷
    codes
    "define count2 a b n = counter2 a b n ; count_back2 n b a ; count_back2 n a b" ∷
    codes
    "define count3 a b c n = counter3 a b c n ; count_back3 n b c a ; count_back3 n a c b ; count_back3 n a b c" ∷
    codes
    "define count4 a b c d n = counter4 a b c d n ; count_back4 n b c d a ; count_back4 n a c d b ; count_back4 n a b d c ; count_back4 n a b c d" ∷
    codes
    "define count5 a b c d e n = counter5 a b c d e n ; count_back5 n b c d e a ; count_back5 n a c d e b ; count_back5 n a b d e c ; count_back5 n a b c e d ; count_back5 n a b c d e" ∷
    codes
    "define count6 a b c d e f n = counter6 a b c d e f n ; count_back6 n b c d e f a ; count_back6 n a c d e f b ; count_back6 n a b d e f c ; count_back6 n a b c e f d ; count_back6 n a b c d f e ; count_back6 n a b c d e f" ∷
    codes
    "define count7 a b c d e f g n = counter7 a b c d e f g n ; count_back7 n b c d e f g a ; count_back7 n a c d e f g b ; count_back7 n a b d e f g c ; count_back7 n a b c e f g d ; count_back7 n a b c d f g e ; count_back7 n a b c d e g f ; count_back7 n a b c d e f g" ∷
    codes
    "define count8 a b c d e f g h n = counter8 a b c d e f g h n ; count_back8 n b c d e f g h a ; count_back8 n a c d e f g h b ; count_back8 n a b d e f g h c ; count_back8 n a b c e f g h d ; count_back8 n a b c d f g h e ; count_back8 n a b c d e g h f ; count_back8 n a b c d e f h g ; count_back8 n a b c d e f g h" ∷
    codes
    "define atmost x y = maximizer x y y ; max_back y y x" ∷
    codes
    "define between x a b = atmost a x ; atmost x b" ∷
    codes
    "define before s l u = local e span ; sum s l e ; atmost e u" ∷
    codes
    "define gate t x y = passer t x y ; passer t y x" ∷
    codes
    "define table2 i n e1 v1 e2 v2 = local t1 truth ; alike i e1 t1 ; if t1 v1 v2 n" ∷
    codes
    "define table3 i n e1 v1 e2 v2 e3 v3 = local t1 truth ; local t2 truth ; local m2 like n ; alike i e1 t1 ; alike i e2 t2 ; if t1 v1 m2 n ; if t2 v2 v3 m2" ∷
    codes
    "define table4 i n e1 v1 e2 v2 e3 v3 e4 v4 = local t1 truth ; local t2 truth ; local t3 truth ; local m2 like n ; local m3 like n ; alike i e1 t1 ; alike i e2 t2 ; alike i e3 t3 ; if t1 v1 m2 n ; if t2 v2 m3 m2 ; if t3 v3 v4 m3" ∷
    codes
    "define table5 i n e1 v1 e2 v2 e3 v3 e4 v4 e5 v5 = local t1 truth ; local t2 truth ; local t3 truth ; local t4 truth ; local m2 like n ; local m3 like n ; local m4 like n ; alike i e1 t1 ; alike i e2 t2 ; alike i e3 t3 ; alike i e4 t4 ; if t1 v1 m2 n ; if t2 v2 m3 m2 ; if t3 v3 m4 m3 ; if t4 v4 v5 m4" ∷
    codes
    "define table6 i n e1 v1 e2 v2 e3 v3 e4 v4 e5 v5 e6 v6 = local t1 truth ; local t2 truth ; local t3 truth ; local t4 truth ; local t5 truth ; local m2 like n ; local m3 like n ; local m4 like n ; local m5 like n ; alike i e1 t1 ; alike i e2 t2 ; alike i e3 t3 ; alike i e4 t4 ; alike i e5 t5 ; if t1 v1 m2 n ; if t2 v2 m3 m2 ; if t3 v3 m4 m3 ; if t4 v4 m5 m4 ; if t5 v5 v6 m5" ∷
    codes
    "define table7 i n e1 v1 e2 v2 e3 v3 e4 v4 e5 v5 e6 v6 e7 v7 = local t1 truth ; local t2 truth ; local t3 truth ; local t4 truth ; local t5 truth ; local t6 truth ; local m2 like n ; local m3 like n ; local m4 like n ; local m5 like n ; local m6 like n ; alike i e1 t1 ; alike i e2 t2 ; alike i e3 t3 ; alike i e4 t4 ; alike i e5 t5 ; alike i e6 t6 ; if t1 v1 m2 n ; if t2 v2 m3 m2 ; if t3 v3 m4 m3 ; if t4 v4 m5 m4 ; if t5 v5 m6 m5 ; if t6 v6 v7 m6" ∷
    codes
    "define table8 i n e1 v1 e2 v2 e3 v3 e4 v4 e5 v5 e6 v6 e7 v7 e8 v8 = local t1 truth ; local t2 truth ; local t3 truth ; local t4 truth ; local t5 truth ; local t6 truth ; local t7 truth ; local m2 like n ; local m3 like n ; local m4 like n ; local m5 like n ; local m6 like n ; local m7 like n ; alike i e1 t1 ; alike i e2 t2 ; alike i e3 t3 ; alike i e4 t4 ; alike i e5 t5 ; alike i e6 t6 ; alike i e7 t7 ; if t1 v1 m2 n ; if t2 v2 m3 m2 ; if t3 v3 m4 m3 ; if t4 v4 m5 m4 ; if t5 v5 m6 m5 ; if t6 v6 m7 m6 ; if t7 v7 v8 m7" ∷
    codes
    "define apart s l u m = local e span ; local f span ; local p truth ; local q truth ; local v truth ; local w truth ; sum s l e ; sum u m f ; less u e p ; less s f q ; not p v ; not q w ; passer p v q ; passer q w p" ∷
    codes
    "define soft_sum t x y z = local x1 span ; local y1 span ; local z1 span ; gate t x x1 ; gate t y y1 ; gate t z z1 ; sum x1 y1 z1" ∷
    codes
    "define soft_product t x y z = local x1 span ; local y1 span ; local z1 span ; gate t x x1 ; gate t y y1 ; gate t z z1 ; product x1 y1 z1 by *" ∷
    codes
    "define soft_square t x y = local x1 span ; local y1 span ; gate t x x1 ; gate t y y1 ; square x1 y1" ∷
    codes
    "define soft_scaled_square t x y = local x1 span ; local y1 span ; gate t x x1 ; gate t y y1 ; scaled_square x1 y1 by *" ∷
    codes
    "define soft_max t x y z = local x1 span ; local y1 span ; local z1 span ; gate t x x1 ; gate t y y1 ; gate t z z1 ; max x1 y1 z1" ∷
    codes
    "define soft_min t x y z = local x1 span ; local y1 span ; local z1 span ; gate t x x1 ; gate t y y1 ; gate t z z1 ; min x1 y1 z1" ∷
    codes
    "define soft_abs t x y = local x1 span ; local y1 span ; gate t x x1 ; gate t y y1 ; abs x1 y1" ∷
    codes
    "define soft_quotient t x y q = local x1 span ; local y1 span ; local q1 span ; gate t x x1 ; gate t y y1 ; gate t q q1 ; quotient x1 y1 q1" ∷
    codes
    "define soft_remainder t x y r = local x1 span ; local y1 span ; local r1 span ; gate t x x1 ; gate t y y1 ; gate t r r1 ; remainder x1 y1 r1" ∷
    codes
    "define soft_less t x y u = local x1 span ; local y1 span ; local u1 truth ; gate t x x1 ; gate t y y1 ; gate t u u1 ; less x1 y1 u1" ∷
    codes
    "define soft_alike t x y u = local x1 like x ; local y1 like y ; local u1 truth ; gate t x x1 ; gate t y y1 ; gate t u u1 ; alike x1 y1 u1" ∷
    codes
    "define soft_atmost t x y = local x1 span ; local y1 span ; gate t x x1 ; gate t y y1 ; atmost x1 y1" ∷
    codes
    "define soft_between t x a b = local x1 span ; local a1 span ; local b1 span ; gate t x x1 ; gate t a a1 ; gate t b b1 ; between x1 a1 b1" ∷
    codes
    "define soft_before t s l u = local s1 span ; local l1 span ; local u1 span ; gate t s s1 ; gate t l l1 ; gate t u u1 ; before s1 l1 u1" ∷
    codes
    "define soft_apart t s l u m = local s1 span ; local l1 span ; local u1 span ; local m1 span ; gate t s s1 ; gate t l l1 ; gate t u u1 ; gate t m m1 ; apart s1 l1 u1 m1" ∷
    codes
    "define soft_if t u a b o = local u1 truth ; local a1 like a ; local b1 like b ; local o1 like o ; gate t u u1 ; gate t a a1 ; gate t b b1 ; gate t o o1 ; if u1 a1 b1 o1" ∷
    codes
    "define soft_not t x y = local x1 truth ; local y1 truth ; gate t x x1 ; gate t y y1 ; not x1 y1" ∷
    codes
    "define soft_and t x y z = local x1 truth ; local y1 truth ; local z1 truth ; gate t x x1 ; gate t y y1 ; gate t z z1 ; and x1 y1 z1" ∷
    codes
    "define soft_or t x y z = local x1 truth ; local y1 truth ; local z1 truth ; gate t x x1 ; gate t y y1 ; gate t z z1 ; or x1 y1 z1" ∷
    codes
    "define soft_link t x y = local x1 like x ; local y1 like y ; gate t x x1 ; gate t y y1 ; link x1 y1 by *" ∷
    []

-- those over the excluders too
abbrev pub different_lines : List (List ℕ)
different_lines =
    codes
    "define different2 a b = excluder1 a b a ; excluder1 b a b" ∷
    codes
    "define different3 a b c = excluder2 a b c a ; excluder2 b a c b ; excluder2 c a b c" ∷
    codes
    "define different4 a b c d = excluder3 a b c d a ; excluder3 b a c d b ; excluder3 c a b d c ; excluder3 d a b c d" ∷
    codes
    "define different5 a b c d e = excluder4 a b c d e a ; excluder4 b a c d e b ; excluder4 c a b d e c ; excluder4 d a b c e d ; excluder4 e a b c d e" ∷
    codes
    "define different6 a b c d e f = excluder5 a b c d e f a ; excluder5 b a c d e f b ; excluder5 c a b d e f c ; excluder5 d a b c e f d ; excluder5 e a b c d f e ; excluder5 f a b c d e f" ∷
    codes
    "define different7 a b c d e f g = excluder6 a b c d e f g a ; excluder6 b a c d e f g b ; excluder6 c a b d e f g c ; excluder6 d a b c e f g d ; excluder6 e a b c d f g e ; excluder6 f a b c d e g f ; excluder6 g a b c d e f g" ∷
    codes
    "define different8 a b c d e f g h = excluder7 a b c d e f g h a ; excluder7 b a c d e f g h b ; excluder7 c a b d e f g h c ; excluder7 d a b c e f g h d ; excluder7 e a b c d f g h e ; excluder7 f a b c d e g h f ; excluder7 g a b c d e f h g ; excluder7 h a b c d e f g h" ∷
    codes
    "define different9 a b c d e f g h i = excluder8 b c d e f g h i a by * ; excluder8 a c d e f g h i b by * ; excluder8 a b d e f g h i c by * ; excluder8 a b c e f g h i d by * ; excluder8 a b c d f g h i e by * ; excluder8 a b c d e g h i f by * ; excluder8 a b c d e f h i g by * ; excluder8 a b c d e f g i h by * ; excluder8 a b c d e f g h i by *" ∷
    codes
    "define soft_different2 t a b = local a1 like a ; local b1 like b ; gate t a a1 ; gate t b b1 ; different2 a1 b1" ∷
    codes
    "define soft_different3 t a b c = local a1 like a ; local b1 like b ; local c1 like c ; gate t a a1 ; gate t b b1 ; gate t c c1 ; different3 a1 b1 c1" ∷
    codes
    "define soft_different4 t a b c d = local a1 like a ; local b1 like b ; local c1 like c ; local d1 like d ; gate t a a1 ; gate t b b1 ; gate t c c1 ; gate t d d1 ; different4 a1 b1 c1 d1" ∷
    codes
    "define soft_different5 t a b c d e = local a1 like a ; local b1 like b ; local c1 like c ; local d1 like d ; local e1 like e ; gate t a a1 ; gate t b b1 ; gate t c c1 ; gate t d d1 ; gate t e e1 ; different5 a1 b1 c1 d1 e1" ∷
    codes
    "define soft_different6 t a b c d e f = local a1 like a ; local b1 like b ; local c1 like c ; local d1 like d ; local e1 like e ; local f1 like f ; gate t a a1 ; gate t b b1 ; gate t c c1 ; gate t d d1 ; gate t e e1 ; gate t f f1 ; different6 a1 b1 c1 d1 e1 f1" ∷
    codes
    "define soft_different7 t a b c d e f g = local a1 like a ; local b1 like b ; local c1 like c ; local d1 like d ; local e1 like e ; local f1 like f ; local g1 like g ; gate t a a1 ; gate t b b1 ; gate t c c1 ; gate t d d1 ; gate t e e1 ; gate t f f1 ; gate t g g1 ; different7 a1 b1 c1 d1 e1 f1 g1" ∷
    codes
    "define soft_different8 t a b c d e f g h = local a1 like a ; local b1 like b ; local c1 like c ; local d1 like d ; local e1 like e ; local f1 like f ; local g1 like g ; local h1 like h ; gate t a a1 ; gate t b b1 ; gate t c c1 ; gate t d d1 ; gate t e e1 ; gate t f f1 ; gate t g g1 ; gate t h h1 ; different8 a1 b1 c1 d1 e1 f1 g1 h1" ∷
    codes
    "define soft_different9 t a b c d e f g h i = local a1 like a ; local b1 like b ; local c1 like c ; local d1 like d ; local e1 like e ; local f1 like f ; local g1 like g ; local h1 like h ; local i1 like i ; gate t a a1 ; gate t b b1 ; gate t c c1 ; gate t d d1 ; gate t e e1 ; gate t f f1 ; gate t g g1 ; gate t h h1 ; gate t i i1 ; different9 a1 b1 c1 d1 e1 f1 g1 h1 i1 by *" ∷
    []

-- the program's own lines are these
abbrev pub PreludeIsStated : Type 0
PreludeIsStated = map (λ line. line.now) PRELUDE ≡ prelude_lines

abbrev pub DifferentIsStated : Type 0
DifferentIsStated = map (λ line. line.now) DIFFERENT ≡ different_lines
