-- A packet, or none.
use Rattle.std.proofs.Common.{◌≡◌, ℕ, negsuc, List, length, Option, ap, refl, subst, sym, ◌∙◌, rules, to_z, of_z, w32}
use Rattle.std.specs.Option.{option_copied}
use Rattle.tirnouch_c.specs.Buffers.{answer_of}
use Rattle.tirnouch_c.specs.Reads.{TellsPacket}
use Rattle.tirnouch_c.proofs.reads.taken.Goals as goal

pub returns-in-None : goal.returns-in-None
returns-in-None c = record {
  there = λ setup w k shows is. subst (λ (o : Option (List ℕ)). TellsPacket o (negsuc 0) c.args.buffer.now c.args.buffer.now) (sym (ap option_copied c.in-None.is) ∙ c.packet_at.ensures.there setup w k shows is) (refl, refl);
  nowhere = λ setup w shows none. (refl, refl);
}

pub returns-in-Some : goal.returns-in-Some
returns-in-Some c =
    let told : to_z w32 (of_z w32 c.answer_of.result) ≡ answer_of (length c.in-Some.packet.now) = search rules in record {
      there = λ setup w k shows is.
          subst (λ (o : Option (List ℕ)). TellsPacket o (to_z w32 (of_z w32 c.answer_of.result)) c.args.buffer.now c.fill.new.buffer) (sym (ap option_copied c.in-Some.is) ∙ c.packet_at.ensures.there setup w k shows is) (told, c.fill.ensures.filled);
      nowhere = λ setup w shows none. absurd (cc (sym (ap option_copied c.in-Some.is) ∙ c.packet_at.ensures.nowhere setup w shows none));
    }
