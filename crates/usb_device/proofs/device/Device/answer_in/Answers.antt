-- The packet stands at the front of the zeros, and what is behind it goes.
use Rattle.std.proofs.Common.{◌≡◌, ℕ, ap, sym, ◌∙◌, ◌++◌, List, length, replicate}
use Rattle.std.proofs.lemmas.List.{length-replicate}
use Rattle.usb_model.specs.Buffer.{Buffer, seen}
use Rattle.usb_model.specs.declared.buffer.Memory.{Memory}
use Rattle.usb_device.specs.Pipe.{answer_of, pipe_at}
use Rattle.usb_device.proofs.Appends.{appended-within}
use Rattle.usb_device.proofs.device.Device.answer_in.Goals.{in-Own, in-Lent}
use Rattle.usb_device.proofs.device.Device.answer_in.Goals as goal

pub returns-clause-bytes : goal.returns-clause-bytes
returns-clause-bytes g c =
    let answer = answer_of (pipe_at (g.Self.Device.pipes c.args.self.now) c.args.ep) in
    let bytes : List ℕ = c.args.bytes.now.items in
    let zeros : List ℕ = replicate c.args.room 0 in
    let long : length zeros ≡ c.args.room = length-replicate c.args.room 0 in
    let before : c.len-before.result ≡ length bytes = c.len-before.ensures.len in
    let held : (seen c.into_memory.result).items ≡ bytes ++ zeros = ap (λ (b : Buffer). b.items) (c.into_memory.ensures ∙ c.take.ensures.taken) ∙ c.append_zeros.ensures.items in
    elim c.match-into_memory.branch [
      | in-Own w ↦
          let now = w.deref_mut.ensures.value ∙ sym (ap (λ (m : Memory). (seen m).items) w.in-Own.is) ∙ held in
          let len = w.in-Own.own.ok.0 ∙ sym (ap (λ (xs : List ℕ). length xs) w.deref_mut.ensures.value) in
          ap (λ (b : Buffer). b.items) c.truncate.ensures
          ∙ rw (c.put.ensures, w.act-is) (appended-within answer c.match-into_memory.act.0 c.args.room c.len-before.result c.count_within.result w.in-Own.own.len bytes zeros w.deref_mut.result.now w.answer-act.new.buf _ _
          long before now len w.answer-act.ensures.buffer (ap (λ p. p.0) w.act-is ∙ w.answer-act.ensures.act) c.count_within.ensures.count c.count_within.ensures.most)
      | in-Lent w ↦
          let now = w.deref_mut-in-Lent.ensures.value ∙ sym (ap (λ (m : Memory). (seen m).items) w.in-Lent.is) ∙ held in
          let len = w.in-Lent.lent.ok.0 ∙ sym (ap (λ (xs : List ℕ). length xs) w.deref_mut-in-Lent.ensures.value) in
          ap (λ (b : Buffer). b.items) c.truncate.ensures
          ∙ rw (c.put.ensures, w.act-is) (appended-within answer c.match-into_memory.act.0 c.args.room c.len-before.result c.count_within.result w.in-Lent.lent.len bytes zeros w.deref_mut-in-Lent.result.now w.answer-act-in-Lent.new.buf _ _
          long before now len w.answer-act-in-Lent.ensures.buffer (ap (λ p. p.0) w.act-is ∙ w.answer-act-in-Lent.ensures.act) c.count_within.ensures.count c.count_within.ensures.most)
    ]
