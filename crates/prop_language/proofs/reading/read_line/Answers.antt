use Rattle.std.proofs.Common.{length, inl, inr, refl}
use Rattle.std.proofs.lemmas.Bool.{le-ltb}
use Rattle.prop_language.proofs.ReadingLaws.{reads_line}
use Rattle.prop_language.proofs.reading.read_line.Goals as goal

pub returns-then-line-gt-MOST_BYTES-clause-read : goal.returns-then-line-gt-MOST_BYTES-clause-read
returns-then-line-gt-MOST_BYTES-clause-read c = inr (inl (c.if-line-gt-MOST_BYTES.true, refl))

pub returns-clause-read : goal.returns-clause-read
returns-clause-read c =
    reads_line c.args.line.now _ (rw (
      le-ltb 4096 (length c.args.line.now) c.if-line-gt-MOST_BYTES.false,
      ← c.without_return.ensures,
    ) c.read_text.ensures.read)
