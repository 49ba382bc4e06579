-- The bytes of streams over several calls.
use Rattle.std.proofs.Common.{◌≡◌, ℕ, List, [], ◌∷◌, ◌++◌, refl, sym, ◌∙◌, ap, append_assoc, append-nil, subst}
use Rattle.std.specs.Prelude.{Option, Some, None, Ok, Err}
use Rattle.std.specs.Io.KnownBytes.{Appends, Consumes, Keeps}
use Rattle.prop_engine.specs.Calls.{Call, Leads, ReadCall, WriteCall, FlushCall, bytes_read, bytes_written}
use Rattle.prop_engine.specs.Streams.{StreamCall}
use Rattle.prop_engine.specs.declared.streams.Streams.{Streams}

appends_none : (a : Option (List ℕ)) → Appends a a []
appends_none None = tt
appends_none (Some xs) = sym (append-nil xs)

consumes_none : (a : Option (List ℕ)) → Consumes a a []
consumes_none None = tt
consumes_none (Some xs) = refl

appends_more : (a b c : Option (List ℕ)) (x y : List ℕ) → Appends a b x → Appends b c y → Appends a c (x ++ y)
appends_more None b c x y p q = tt
appends_more (Some xs) None c x y p q = absurd p
appends_more (Some xs) (Some ys) None x y p q = absurd q
appends_more (Some xs) (Some ys) (Some zs) x y p q = q ∙ ap (λ l. l ++ y) p ∙ append_assoc xs x y

consumes_more : (a b c : Option (List ℕ)) (x y : List ℕ) → Consumes a b x → Consumes b c y → Consumes a c (x ++ y)
consumes_more None b c x y p q = tt
consumes_more (Some xs) None c x y p q = absurd p
consumes_more (Some xs) (Some ys) None x y p q = absurd q
consumes_more (Some xs) (Some ys) (Some zs) x y p q = p ∙ ap (λ l. x ++ l) q ∙ sym (append_assoc x y zs)

-- what is kept neither grows nor shrinks
kept_appends : (a b c : Option (List ℕ)) (x : List ℕ) → Keeps a b → Appends b c x → Appends a c x
kept_appends None b c x k p = tt
kept_appends (Some xs) None c x k p = absurd k
kept_appends (Some xs) (Some ys) None x k p = absurd p
kept_appends (Some xs) (Some ys) (Some zs) x k p = p ∙ ap (λ l. l ++ x) k

kept_consumes : (a b c : Option (List ℕ)) (x : List ℕ) → Keeps a b → Consumes b c x → Consumes a c x
kept_consumes None b c x k p = tt
kept_consumes (Some xs) None c x k p = absurd k
kept_consumes (Some xs) (Some ys) None x k p = absurd p
kept_consumes (Some xs) (Some ys) (Some zs) x k p = sym k ∙ p

module _ {Rd W : Type 0} (left : Rd → Option (List ℕ)) (held : W → Option (List ℕ)) where
  same_reader : (a b c : Streams Rd W) (x : List ℕ) → b.reader ≡ a.reader → Consumes (left b.reader) (left c.reader) x
      → Consumes (left a.reader) (left c.reader) x
  same_reader a b c x e p = subst (λ (r : Rd). Consumes (left r) (left c.reader) x) e p

  same_writer : (a b c : Streams Rd W) (x : List ℕ) → b.writer ≡ a.writer → Appends (held b.writer) (held c.writer) x
      → Appends (held a.writer) (held c.writer) x
  same_writer a b c x e p = subst (λ (w : W). Appends (held w) (held c.writer) x) e p

  pub streams_tell : (a : Streams Rd W) (calls : List Call) (c : Streams Rd W) → Leads (StreamCall left held) a calls c
      → Consumes (left a.reader) (left c.reader) (bytes_read calls)
      × Appends (held a.writer) (held c.writer) (bytes_written calls)
  streams_tell a [] c e = (
    subst (λ (s : Streams Rd W). Consumes (left a.reader) (left s.reader) []) (sym e) (consumes_none (left a.reader)),
    subst (λ (s : Streams Rd W). Appends (held a.writer) (held s.writer) []) (sym e) (appends_none (held a.writer)),
  )
  streams_tell a (ReadCall wanted (Ok bytes) ∷ calls) c (b, (w, (taken, end)), l) =
      let on = streams_tell b calls c l in (
        consumes_more (left a.reader) (left b.reader) (left c.reader) bytes (bytes_read calls) taken on.0,
        same_writer a b c (bytes_written calls) w on.1,
      )
  streams_tell a (ReadCall wanted (Err failure) ∷ calls) c (b, (w, kept), l) =
      let on = streams_tell b calls c l in (
        kept_consumes (left a.reader) (left b.reader) (left c.reader) (bytes_read calls) kept on.0,
        same_writer a b c (bytes_written calls) w on.1,
      )
  streams_tell a (WriteCall bytes (Ok count) ∷ calls) c (b, (r, put), l) =
      let on = streams_tell b calls c l in (
        same_reader a b c (bytes_read calls) r on.0,
        appends_more (held a.writer) (held b.writer) (held c.writer) _ (bytes_written calls) put on.1,
      )
  streams_tell a (WriteCall bytes (Err failure) ∷ calls) c (b, (r, kept), l) =
      let on = streams_tell b calls c l in (
        same_reader a b c (bytes_read calls) r on.0,
        kept_appends (held a.writer) (held b.writer) (held c.writer) (bytes_written calls) kept on.1,
      )
  streams_tell a (FlushCall result ∷ calls) c (b, (r, kept), l) =
      let on = streams_tell b calls c l in (
        same_reader a b c (bytes_read calls) r on.0,
        kept_appends (held a.writer) (held b.writer) (held c.writer) (bytes_written calls) kept on.1,
      )
