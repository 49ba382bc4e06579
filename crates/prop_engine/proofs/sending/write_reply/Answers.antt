use Rattle.std.proofs.Common.{ap, arith, length, lit<}
use Rattle.std.proofs.lemmas.Str.{encode_ascii}
use Rattle.prop_engine.proofs.Refusals.{short_reply}
use Rattle.prop_engine.proofs.sending.write_reply.Goals as goal

pub push-requires : goal.push-requires
push-requires g c =
    omega (
      arith,
      c.push_str.ensures.len,
      ap length c.reply.ensures,
      ap length c.new-line.ensures,
      short_reply c.in-Refused.refusal,
      ap length (encode_ascii 10 (lit< tt)),
    )
