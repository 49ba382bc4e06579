-- The compounds, as lines of the language.
use Rattle.std.specs.Prelude.{◌≡◌, ℕ, List, [], ◌∷◌, codes, map}
use Rattle.prop_many.specs.declared.prelude.TheConstants.{PRELUDE}

-- each line, byte by byte
abbrev pub prelude_lines : List (List ℕ)
prelude_lines =
    codes
    "define all_different2 a b = differ1 a b a ; differ1 b a b" ∷
    codes
    "define all_different3 a b c = differ2 a b c a ; differ2 b a c b ; differ2 c a b c" ∷
    codes
    "define all_different4 a b c d = differ3 a b c d a ; differ3 b a c d b ; differ3 c a b d c ; differ3 d a b c d" ∷
    codes
    "define all_different5 a b c d e = differ4 a b c d e a ; differ4 b a c d e b ; differ4 c a b d e c ; differ4 d a b c e d ; differ4 e a b c d e" ∷
    codes
    "define all_different6 a b c d e f = differ5 a b c d e f a ; differ5 b a c d e f b ; differ5 c a b d e f c ; differ5 d a b c e f d ; differ5 e a b c d f e ; differ5 f a b c d e f" ∷
    codes
    "define all_different7 a b c d e f g = differ6 a b c d e f g a ; differ6 b a c d e f g b ; differ6 c a b d e f g c ; differ6 d a b c e f g d ; differ6 e a b c d f g e ; differ6 f a b c d e g f ; differ6 g a b c d e f g" ∷
    codes
    "define all_different8 a b c d e f g h = differ7 a b c d e f g h a ; differ7 b a c d e f g h b ; differ7 c a b d e f g h c ; differ7 d a b c e f g h d ; differ7 e a b c d f g h e ; differ7 f a b c d e g h f ; differ7 g a b c d e f h g ; differ7 h a b c d e f g h" ∷
    codes
    "define all_different9 a b c d e f g h i = differ8 a b c d e f g h i a ; differ8 b a c d e f g h i b ; differ8 c a b d e f g h i c ; differ8 d a b c e f g h i d ; differ8 e a b c d f g h i e ; differ8 f a b c d e g h i f ; differ8 g a b c d e f h i g ; differ8 h a b c d e f g i h ; differ8 i a b c d e f g h i" ∷
    codes
    "define all_different10 a b c d e f g h i j = differ9 a b c d e f g h i j a ; differ9 b a c d e f g h i j b ; differ9 c a b d e f g h i j c ; differ9 d a b c e f g h i j d ; differ9 e a b c d f g h i j e ; differ9 f a b c d e g h i j f ; differ9 g a b c d e f h i j g ; differ9 h a b c d e f g i j h ; differ9 i a b c d e f g h j i ; differ9 j a b c d e f g h i j" ∷
    codes
    "define all_different11 a b c d e f g h i j k = differ10 a b c d e f g h i j k a ; differ10 b a c d e f g h i j k b ; differ10 c a b d e f g h i j k c ; differ10 d a b c e f g h i j k d ; differ10 e a b c d f g h i j k e ; differ10 f a b c d e g h i j k f ; differ10 g a b c d e f h i j k g ; differ10 h a b c d e f g i j k h ; differ10 i a b c d e f g h j k i ; differ10 j a b c d e f g h i k j ; differ10 k a b c d e f g h i j k" ∷
    codes
    "define all_different12 a b c d e f g h i j k l = differ11 a b c d e f g h i j k l a ; differ11 b a c d e f g h i j k l b ; differ11 c a b d e f g h i j k l c ; differ11 d a b c e f g h i j k l d ; differ11 e a b c d f g h i j k l e ; differ11 f a b c d e g h i j k l f ; differ11 g a b c d e f h i j k l g ; differ11 h a b c d e f g i j k l h ; differ11 i a b c d e f g h j k l i ; differ11 j a b c d e f g h i k l j ; differ11 k a b c d e f g h i j l k ; differ11 l a b c d e f g h i j k l" ∷
    codes
    "define all_different13 a b c d e f g h i j k l m = differ12 a b c d e f g h i j k l m a ; differ12 b a c d e f g h i j k l m b ; differ12 c a b d e f g h i j k l m c ; differ12 d a b c e f g h i j k l m d ; differ12 e a b c d f g h i j k l m e ; differ12 f a b c d e g h i j k l m f ; differ12 g a b c d e f h i j k l m g ; differ12 h a b c d e f g i j k l m h ; differ12 i a b c d e f g h j k l m i ; differ12 j a b c d e f g h i k l m j ; differ12 k a b c d e f g h i j l m k ; differ12 l a b c d e f g h i j k m l ; differ12 m a b c d e f g h i j k l m" ∷
    codes
    "define all_different14 a b c d e f g h i j k l m n = differ13 a b c d e f g h i j k l m n a ; differ13 b a c d e f g h i j k l m n b ; differ13 c a b d e f g h i j k l m n c ; differ13 d a b c e f g h i j k l m n d ; differ13 e a b c d f g h i j k l m n e ; differ13 f a b c d e g h i j k l m n f ; differ13 g a b c d e f h i j k l m n g ; differ13 h a b c d e f g i j k l m n h ; differ13 i a b c d e f g h j k l m n i ; differ13 j a b c d e f g h i k l m n j ; differ13 k a b c d e f g h i j l m n k ; differ13 l a b c d e f g h i j k m n l ; differ13 m a b c d e f g h i j k l n m ; differ13 n a b c d e f g h i j k l m n" ∷
    codes
    "define all_different15 a b c d e f g h i j k l m n o = differ14 a b c d e f g h i j k l m n o a ; differ14 b a c d e f g h i j k l m n o b ; differ14 c a b d e f g h i j k l m n o c ; differ14 d a b c e f g h i j k l m n o d ; differ14 e a b c d f g h i j k l m n o e ; differ14 f a b c d e g h i j k l m n o f ; differ14 g a b c d e f h i j k l m n o g ; differ14 h a b c d e f g i j k l m n o h ; differ14 i a b c d e f g h j k l m n o i ; differ14 j a b c d e f g h i k l m n o j ; differ14 k a b c d e f g h i j l m n o k ; differ14 l a b c d e f g h i j k m n o l ; differ14 m a b c d e f g h i j k l n o m ; differ14 n a b c d e f g h i j k l m o n ; differ14 o a b c d e f g h i j k l m n o" ∷
    codes
    "define all_different16 a b c d e f g h i j k l m n o p = differ15 a b c d e f g h i j k l m n o p a ; differ15 b a c d e f g h i j k l m n o p b ; differ15 c a b d e f g h i j k l m n o p c ; differ15 d a b c e f g h i j k l m n o p d ; differ15 e a b c d f g h i j k l m n o p e ; differ15 f a b c d e g h i j k l m n o p f ; differ15 g a b c d e f h i j k l m n o p g ; differ15 h a b c d e f g i j k l m n o p h ; differ15 i a b c d e f g h j k l m n o p i ; differ15 j a b c d e f g h i k l m n o p j ; differ15 k a b c d e f g h i j l m n o p k ; differ15 l a b c d e f g h i j k m n o p l ; differ15 m a b c d e f g h i j k l n o p m ; differ15 n a b c d e f g h i j k l m o p n ; differ15 o a b c d e f g h i j k l m n p o ; differ15 p a b c d e f g h i j k l m n o p" ∷
    codes
    "define pausing1 s w e a1 d1 = pauser1 s w a1 d1 e ; pause_back1 s e w a1 d1 s" ∷
    codes
    "define pausing2 s w e a1 d1 a2 d2 = pauser2 s w a1 d1 a2 d2 e ; pause_back2 s e w a1 d1 a2 d2 s" ∷
    codes
    "define pausing4 s w e a1 d1 a2 d2 a3 d3 a4 d4 = pauser4 s w a1 d1 a2 d2 a3 d3 a4 d4 e ; pause_back4 s e w a1 d1 a2 d2 a3 d3 a4 d4 s" ∷
    codes
    "define pausing8 s w e a1 d1 a2 d2 a3 d3 a4 d4 a5 d5 a6 d6 a7 d7 a8 d8 = pauser8 s w a1 d1 a2 d2 a3 d3 a4 d4 a5 d5 a6 d6 a7 d7 a8 d8 e ; pause_back8 s e w a1 d1 a2 d2 a3 d3 a4 d4 a5 d5 a6 d6 a7 d7 a8 d8 s" ∷
    codes
    "define pausing16 s w e a1 d1 a2 d2 a3 d3 a4 d4 a5 d5 a6 d6 a7 d7 a8 d8 a9 d9 a10 d10 a11 d11 a12 d12 a13 d13 a14 d14 a15 d15 a16 d16 = pauser16 s w a1 d1 a2 d2 a3 d3 a4 d4 a5 d5 a6 d6 a7 d7 a8 d8 a9 d9 a10 d10 a11 d11 a12 d12 a13 d13 a14 d14 a15 d15 a16 d16 e ; pause_back16 s e w a1 d1 a2 d2 a3 d3 a4 d4 a5 d5 a6 d6 a7 d7 a8 d8 a9 d9 a10 d10 a11 d11 a12 d12 a13 d13 a14 d14 a15 d15 a16 d16 s" ∷
    codes
    "define pausing32 s w e a1 d1 a2 d2 a3 d3 a4 d4 a5 d5 a6 d6 a7 d7 a8 d8 a9 d9 a10 d10 a11 d11 a12 d12 a13 d13 a14 d14 a15 d15 a16 d16 a17 d17 a18 d18 a19 d19 a20 d20 a21 d21 a22 d22 a23 d23 a24 d24 a25 d25 a26 d26 a27 d27 a28 d28 a29 d29 a30 d30 a31 d31 a32 d32 = pauser32 s w a1 d1 a2 d2 a3 d3 a4 d4 a5 d5 a6 d6 a7 d7 a8 d8 a9 d9 a10 d10 a11 d11 a12 d12 a13 d13 a14 d14 a15 d15 a16 d16 a17 d17 a18 d18 a19 d19 a20 d20 a21 d21 a22 d22 a23 d23 a24 d24 a25 d25 a26 d26 a27 d27 a28 d28 a29 d29 a30 d30 a31 d31 a32 d32 e ; pause_back32 s e w a1 d1 a2 d2 a3 d3 a4 d4 a5 d5 a6 d6 a7 d7 a8 d8 a9 d9 a10 d10 a11 d11 a12 d12 a13 d13 a14 d14 a15 d15 a16 d16 a17 d17 a18 d18 a19 d19 a20 d20 a21 d21 a22 d22 a23 d23 a24 d24 a25 d25 a26 d26 a27 d27 a28 d28 a29 d29 a30 d30 a31 d31 a32 d32 s" ∷
    codes
    "define pausing64 s w e a1 d1 a2 d2 a3 d3 a4 d4 a5 d5 a6 d6 a7 d7 a8 d8 a9 d9 a10 d10 a11 d11 a12 d12 a13 d13 a14 d14 a15 d15 a16 d16 a17 d17 a18 d18 a19 d19 a20 d20 a21 d21 a22 d22 a23 d23 a24 d24 a25 d25 a26 d26 a27 d27 a28 d28 a29 d29 a30 d30 a31 d31 a32 d32 a33 d33 a34 d34 a35 d35 a36 d36 a37 d37 a38 d38 a39 d39 a40 d40 a41 d41 a42 d42 a43 d43 a44 d44 a45 d45 a46 d46 a47 d47 a48 d48 a49 d49 a50 d50 a51 d51 a52 d52 a53 d53 a54 d54 a55 d55 a56 d56 a57 d57 a58 d58 a59 d59 a60 d60 a61 d61 a62 d62 a63 d63 a64 d64 = pauser64 s w a1 d1 a2 d2 a3 d3 a4 d4 a5 d5 a6 d6 a7 d7 a8 d8 a9 d9 a10 d10 a11 d11 a12 d12 a13 d13 a14 d14 a15 d15 a16 d16 a17 d17 a18 d18 a19 d19 a20 d20 a21 d21 a22 d22 a23 d23 a24 d24 a25 d25 a26 d26 a27 d27 a28 d28 a29 d29 a30 d30 a31 d31 a32 d32 a33 d33 a34 d34 a35 d35 a36 d36 a37 d37 a38 d38 a39 d39 a40 d40 a41 d41 a42 d42 a43 d43 a44 d44 a45 d45 a46 d46 a47 d47 a48 d48 a49 d49 a50 d50 a51 d51 a52 d52 a53 d53 a54 d54 a55 d55 a56 d56 a57 d57 a58 d58 a59 d59 a60 d60 a61 d61 a62 d62 a63 d63 a64 d64 e ; pause_back64 s e w a1 d1 a2 d2 a3 d3 a4 d4 a5 d5 a6 d6 a7 d7 a8 d8 a9 d9 a10 d10 a11 d11 a12 d12 a13 d13 a14 d14 a15 d15 a16 d16 a17 d17 a18 d18 a19 d19 a20 d20 a21 d21 a22 d22 a23 d23 a24 d24 a25 d25 a26 d26 a27 d27 a28 d28 a29 d29 a30 d30 a31 d31 a32 d32 a33 d33 a34 d34 a35 d35 a36 d36 a37 d37 a38 d38 a39 d39 a40 d40 a41 d41 a42 d42 a43 d43 a44 d44 a45 d45 a46 d46 a47 d47 a48 d48 a49 d49 a50 d50 a51 d51 a52 d52 a53 d53 a54 d54 a55 d55 a56 d56 a57 d57 a58 d58 a59 d59 a60 d60 a61 d61 a62 d62 a63 d63 a64 d64 s" ∷
    []

-- the program's own lines are these
abbrev pub PreludeIsStated : Type 0
PreludeIsStated = map (λ line. line.now) PRELUDE ≡ prelude_lines
