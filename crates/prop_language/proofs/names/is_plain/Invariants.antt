use Rattle.std.proofs.Common.{◌≡◌, true, take}
use Rattle.std.specs.Str.{IsAscii}
use Rattle.std.specs.List.{list_all}
use Rattle.unicode_ident.specs.Ident.{is_xid_continue}
use Rattle.prop_language.proofs.names.is_plain.Given as goal

abbrev pub invariant-loop-byte : goal.invariant-loop-byte
invariant-loop-byte l = record {
  ascii : IsAscii (take l.byte-index l.rest);
  continues : list_all is_xid_continue (take l.byte-index l.rest) ≡ true;
}
