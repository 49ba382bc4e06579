use Rattle.std.proofs.Common.{◌≡◌, ℕ, List, ◌∷◌, inl, inr, refl}
use Rattle.prop_language.specs.Tokens.{Token, Word, tokens}
use Rattle.prop_language.specs.Said.{KeepsWords}
use Rattle.prop_language.specs.inner.Parts.{KeepsWordsOf, word_of}
use Rattle.prop_language.specs.declared.reading.CommandWord.{CommandWord}
use Rattle.prop_language.specs.declared.reading.CommandWord.TheVariants.{Domain, Relation, Cell, Define, Attach, Fix}
use Rattle.prop_language.specs.declared.reading.CommandWord.TheVariants.{Tell, Choose, Kick, Bring, Forget, Limit}
use Rattle.prop_language.specs.declared.reading.CommandWord.TheVariants.{Settle, Ask, Why, Core, Worldview, Nogoods}
use Rattle.prop_language.proofs.reading.read_command.Goals as goal

keeps : (command : CommandWord) (w : List ℕ) (ts : List Token) → w ≡ word_of command → KeepsWordsOf command ts
    → KeepsWords (Word w ∷ ts)
keeps Domain w ts e h = inl e
keeps Relation w ts e h = inr (inl e)
keeps Cell w ts e h = absurd h
keeps Define w ts e h = inr (inr (inl e))
keeps Attach w ts e h = inr (inr (inr (inl e)))
keeps Fix w ts e h = inr (inr (inr (inr (inr (inl e, h)))))
keeps Tell w ts e h = inr (inr (inr (inr (inr (inr e, h)))))
keeps Choose w ts e h = inr (inr (inr (inr (inl e))))
keeps Kick w ts e h = absurd h
keeps Bring w ts e h = absurd h
keeps Forget w ts e h = absurd h
keeps Limit w ts e h = absurd h
keeps Settle w ts e h = absurd h
keeps Ask w ts e h = absurd h
keeps Why w ts e h = absurd h
keeps Core w ts e h = absurd h
keeps Worldview w ts e h = absurd h
keeps Nogoods w ts e h = absurd h

pub returns-in-Some-clause-read : goal.returns-in-Some-clause-read
returns-in-Some-clause-read c =
    let e = rw c.in-Some-Word-default.field-0-0-is at c.in-Some-Word-default.ensures.found in
    rw (e, c.in-Some.ensures.read (tokens c.in-Some-Word-default.rest.now)) c.read_form.ensures.read

pub returns-in-Some-clause-memory : goal.returns-in-Some-clause-memory
returns-in-Some-clause-memory c =
    let e = rw c.in-Some-Word-default.field-0-0-is at c.in-Some-Word-default.ensures.found in
    λ none. rw e (keeps c.in-Some.command _ _ (c.in-Some.ensures.word refl) (c.read_form.ensures.memory none))

pub returns-in-None-clause-read : goal.returns-in-None-clause-read
returns-in-None-clause-read c =
    let e = rw c.in-Some-Word-default.field-0-0-is at c.in-Some-Word-default.ensures.found in
    inr (rw e (c.in-None.ensures.read (tokens c.in-Some-Word-default.rest.now)))
