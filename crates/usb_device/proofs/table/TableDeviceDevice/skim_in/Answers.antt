use Rattle.std.proofs.Common.{◌≡◌, ℕ, List, ◌++◌, slice_set, true, sym, ap, ◌∙◌, subst}
use Rattle.usb_model.specs.Setup.{endpoint_id}
use Rattle.usb_device.specs.Pipe.{IsLawful, Pipe, pipe_at}
use Rattle.usb_device.specs.Skims.{are_taken, are_whole, pipe_behind, pipe_given, read_in}
use Rattle.usb_device.proofs.Skims.{is_at, script_behind, still_lawful}
use Rattle.usb_device.proofs.table.TableDeviceDevice.skim_in.Goals as goal

-- the endpoint at this address
here : (c : goal.After-self-1) → c.index_mut-pipe.result.now ≡ pipe_at c.self.inside.pipes.items c.args.ep
here c = is_at c.self.inside.pipes.items c.args.ep c.from.result c.index_mut-pipe.result.now c.self.invariant (c.from.ensures ∙ c.id.ensures) c.index_mut-pipe.ensures.value

-- it is put back
back : (c : goal.After-self-1) → slice_set c.self.inside.pipes.items c.from.result c.skim_in.new.self ≡ slice_set c.self.inside.pipes.items (endpoint_id c.args.ep) c.skim_in.new.self
back c = ap (λ (i : ℕ). slice_set c.self.inside.pipes.items i c.skim_in.new.self) (c.from.ensures ∙ c.id.ensures)

pub invariant_of-self : goal.invariant_of-self
invariant_of-self c =
    let k = c.skim_in.result in
    let p = c.index_mut-pipe.result.now in
    let same = ap (λ (q : Pipe). q.script) c.skim_in.ensures.pipe ∙ script_behind k p ∙ ap (λ (q : Pipe). q.script) (here c) in
    subst IsLawful (sym (back c)) (still_lawful c.self.inside.pipes.items c.args.ep c.skim_in.new.self c.self.invariant same)

pub returns-clause-whole : goal.returns-clause-whole
returns-clause-whole c =
    let k = c.skim_in.result in
    ap (λ (q : Pipe). are_whole c.args.size k q) (sym (ap (λ (l : List Pipe). pipe_at l c.args.ep) c.self.view_is) ∙ sym (here c)) ∙ c.skim_in.ensures.whole

pub returns-clause-pipes : goal.returns-clause-pipes
returns-clause-pipes c =
    let k = c.skim_in.result in
    back c
    ∙ ap (slice_set c.self.inside.pipes.items (endpoint_id c.args.ep)) (c.skim_in.ensures.pipe ∙ ap (λ (q : Pipe). pipe_behind k q) (here c))
    ∙ ap (λ (l : List Pipe). slice_set l (endpoint_id c.args.ep) (pipe_behind k (pipe_at l c.args.ep))) c.self.view_is

pub returns-clause-bytes : goal.returns-clause-bytes
returns-clause-bytes c =
    c.skim_in.ensures.bytes ∙ ap (λ (q : Pipe). c.args.bytes.now.items ++ read_in c.skim_in.result q) (here c ∙ ap (λ (l : List Pipe). pipe_at l c.args.ep) c.self.view_is)
