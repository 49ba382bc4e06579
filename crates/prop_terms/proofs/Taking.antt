-- What the reader keeps, and what tokens change.
use Rattle.std.proofs.Common.{◌≡◌, ℕ, ◌<◌, List, [], ◌∷◌, ◌++◌, Bool, true, false, cond, Some, None}
use Rattle.std.proofs.Common.{refl, sym, ap, ◌∙◌, subst}
use Rattle.std.proofs.lemmas.Bool.{lt-leb, false≢true}
use Rattle.prop_terms.specs.declared.frames.Frame as kept
use Rattle.prop_terms.specs.declared.frames.Held as holds
use Rattle.prop_terms.specs.Terms.{Term, term_of}
use Rattle.prop_terms.specs.inner.Machine.{Frame, Have, asks, demand, joined, rank, shut, shut_in}
use Rattle.prop_terms.specs.inner.Machine.{Bracket, is_open, is_done, closed_in}
use Rattle.prop_terms.specs.declared.tokens.Shape.{Shape}
use Rattle.prop_terms.specs.Levels.{bracket_level}
use Rattle.prop_terms.specs.Writing.{inside}
use Rattle.prop_terms.specs.inner.Parts.{frame_of, stacked, stack_of, held_in}

-- ---- the stack

stacked_more : (fs : List kept.Frame) (f : kept.Frame) (others : List Frame)
    → stacked (fs ++ f ∷ []) others ≡ frame_of f ∷ stacked fs others
stacked_more [] f others = refl
stacked_more (g ∷ fs) f others = stacked_more fs f (frame_of g ∷ others)

-- one frame more
pub stack_more : (all fs : List kept.Frame) (f : kept.Frame) → all ≡ fs ++ f ∷ []
    → stack_of all ≡ frame_of f ∷ stack_of fs
stack_more all fs f e = ap stack_of e ∙ stacked_more fs f []

pub demand_more : (all fs : List kept.Frame) (f : kept.Frame) → all ≡ fs ++ f ∷ []
    → demand (stack_of all) ≡ asks (frame_of f)
demand_more all fs f e = ap demand (stack_more all fs f e)

-- ---- what is made

-- what asks for more than comes is made
pub one_made : (c : ℕ) (all fs : List kept.Frame) (f : kept.Frame) (h k : holds.Held) → all ≡ fs ++ f ∷ []
    → c < demand (stack_of all) → term_of k.term ≡ joined (frame_of f) (term_of h.term)
    → k.level ≡ rank (frame_of f) → shut_in c (held_in fs k) ≡ shut_in c (held_in all h)
one_made c all fs f h k e lt t l =
    let more : c < asks (frame_of f) = subst (λ n. c < n) (demand_more all fs f e) lt in
    ap (λ u. shut c (stack_of fs) u k.level) t
    ∙ ap (λ n. shut c (stack_of fs) (joined (frame_of f) (term_of h.term)) n) l
    ∙ sym (ap (λ s. shut c s (term_of h.term) h.level) (stack_more all fs f e)
    ∙ ap (λ b. cond b (record { frames = frame_of f ∷ stack_of fs; term = term_of h.term; level = h.level })
    (shut c (stack_of fs) (joined (frame_of f) (term_of h.term)) (rank (frame_of f))))
    (lt-leb (asks (frame_of f)) c more))

-- ---- brackets

-- a frame is taken off
pub one_pushed : (items new : List kept.Frame) (f : kept.Frame) (b : Bool) → true ≡ b
    → new ≡ cond b (items ++ f ∷ []) items → stack_of new ≡ frame_of f ∷ stack_of items
one_pushed items new f b e g = stack_more new items f (g ∙ ap (λ b. cond b (items ++ f ∷ []) items) (sym e))

open_is : (shape : Shape) (g : Frame) (gs : List Frame) (t : Term) → is_open shape (g ∷ gs) ≡ true
    → closed_in shape (g ∷ gs) t
    ≡ Some (Have (record { frames = gs; term = inside shape t; level = bracket_level }))
open_is shape (Bracket other) gs t e =
    ap (λ b. cond b (Some (Have (record { frames = gs; term = inside shape t; level = bracket_level }))) None) e
open_is shape g gs t e = absurd (false≢true e)

-- the bracket is closed
pub closed_is : (shape : Shape) (all fs : List kept.Frame) (f : kept.Frame) (t : Term) (k : holds.Held)
    → all ≡ fs ++ f ∷ [] → is_open shape (stack_of all) ≡ true → term_of k.term ≡ inside shape t
    → k.level ≡ bracket_level → closed_in shape (stack_of all) t ≡ Some (Have (held_in fs k))
closed_is shape all fs f t k e o u l =
    let same = stack_more all fs f e in
    ap (λ gs. closed_in shape gs t) same
    ∙ open_is shape (frame_of f) (stack_of fs) t (sym (ap (is_open shape) same) ∙ o)
    ∙ ap (λ v. Some (Have (record { frames = stack_of fs; term = v; level = bracket_level }))) (sym u)
    ∙ ap (λ n. Some (Have (record { frames = stack_of fs; term = term_of k.term; level = n }))) (sym l)

pub open_more : (shape : Shape) (all fs : List kept.Frame) (f : kept.Frame) → all ≡ fs ++ f ∷ []
    → is_open shape (stack_of all) ≡ is_open shape (frame_of f ∷ stack_of fs)
open_more shape all fs f e = ap (is_open shape) (stack_more all fs f e)

-- ---- the end

pub not_done : (all fs : List kept.Frame) (f : kept.Frame) → all ≡ fs ++ f ∷ [] → false ≡ is_done (stack_of all)
not_done all fs f e = sym (ap is_done (stack_more all fs f e))
