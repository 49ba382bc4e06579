-- How long the reply to a refused line is.
use Rattle.std.proofs.Common.{◌≡◌, ℕ, ◌+◌, ◌<◌, ◌≤◌, List, ◌++◌, length, arith, lit<}
use Rattle.std.specs.Prelude.{codes}
use Rattle.std.specs.Fmt.{decimal}
use Rattle.std.proofs.lemmas.Fmt.{length-decimal-le}
use Rattle.std.proofs.lemmas.List.{length-append}
use Rattle.prop_refusals.specs.declared.refusal.Limit.TheVariants.{Cells, Instances, Premises, Choices, Statements}
use Rattle.prop_refusals.specs.declared.refusal.Limit.TheVariants.{Domains, Elements, Relations, Definitions, Symbols}
use Rattle.prop_refusals.specs.declared.refusal.Refusal.{Refusal}
use Rattle.prop_refusals.specs.declared.refusal.Refusal.TheVariants.{LineTooLong, NotUtf8, UnknownCommand, WrongForm}
use Rattle.prop_refusals.specs.declared.refusal.Refusal.TheVariants.{NotAName, NotANumber, NameTaken, NoSuchDomain}
use Rattle.prop_refusals.specs.declared.refusal.Refusal.TheVariants.{NoSuchRelation, NoSuchCell, NoSuchPremise}
use Rattle.prop_refusals.specs.declared.refusal.Refusal.TheVariants.{NoSuchProcedure, WrongCount, WrongKind}
use Rattle.prop_refusals.specs.declared.refusal.Refusal.TheVariants.{WrongParameter, NotInTheDomain, EmptyValue}
use Rattle.prop_refusals.specs.declared.refusal.Refusal.TheVariants.{IsAChoice, LimitReached, Memory}
use Rattle.prop_refusals.specs.Refusals.{told_as, number_of, reply_to}

short_number : (n : ℕ) → n < 100 → length (decimal n) ≤ 2
short_number n h = length-decimal-le 2 n (omega arith) h (omega arith)

short_told : (r : Refusal) → (number_of r < 100) × (length ((told_as r).1) < 50)
short_told LineTooLong = (lit< tt, lit< tt)
short_told NotUtf8 = (lit< tt, lit< tt)
short_told UnknownCommand = (lit< tt, lit< tt)
short_told WrongForm = (lit< tt, lit< tt)
short_told NotAName = (lit< tt, lit< tt)
short_told NotANumber = (lit< tt, lit< tt)
short_told NameTaken = (lit< tt, lit< tt)
short_told NoSuchDomain = (lit< tt, lit< tt)
short_told NoSuchRelation = (lit< tt, lit< tt)
short_told NoSuchCell = (lit< tt, lit< tt)
short_told NoSuchPremise = (lit< tt, lit< tt)
short_told NoSuchProcedure = (lit< tt, lit< tt)
short_told WrongCount = (lit< tt, lit< tt)
short_told WrongKind = (lit< tt, lit< tt)
short_told WrongParameter = (lit< tt, lit< tt)
short_told NotInTheDomain = (lit< tt, lit< tt)
short_told EmptyValue = (lit< tt, lit< tt)
short_told IsAChoice = (lit< tt, lit< tt)
short_told (LimitReached Cells) = (lit< tt, lit< tt)
short_told (LimitReached Instances) = (lit< tt, lit< tt)
short_told (LimitReached Premises) = (lit< tt, lit< tt)
short_told (LimitReached Choices) = (lit< tt, lit< tt)
short_told (LimitReached Statements) = (lit< tt, lit< tt)
short_told (LimitReached Domains) = (lit< tt, lit< tt)
short_told (LimitReached Elements) = (lit< tt, lit< tt)
short_told (LimitReached Relations) = (lit< tt, lit< tt)
short_told (LimitReached Definitions) = (lit< tt, lit< tt)
short_told (LimitReached Symbols) = (lit< tt, lit< tt)
short_told Memory = (lit< tt, lit< tt)

told_length : (digits text : List ℕ)
    → length (codes "error " ++ digits ++ codes ": " ++ text) ≡ 8 + (length digits + length text)
told_length digits text = omega (arith, length-append (digits ++ codes ": ") text, length-append digits (codes ": "))

-- with a line feed it fits 64 bytes
pub short_reply : (r : Refusal) → length (reply_to r) < 64
short_reply r =
    let told = short_told r in
    omega (arith, told.1, short_number (number_of r) told.0, told_length (decimal (number_of r)) (told_as r).1)
