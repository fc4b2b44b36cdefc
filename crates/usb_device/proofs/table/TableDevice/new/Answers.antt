-- From one endpoint to the next.
use Rattle.std.proofs.Common.{◌≡◌, ◌∷◌, [], List, arith, ap, sym, ◌∙◌, subst, length}
use Rattle.std.specs.Vec.Iter.{into_iter_items}
use Rattle.std.proofs.lemmas.List.{nil_from_length}
use Rattle.std.proofs.lemmas.List.FromFn.{length-map-range_with_len}
use Rattle.usb_device.specs.Pipe.{IsLawful, Pipe}
use Rattle.usb_device.specs.Scripts.{Takes, are_scripts, pipe_by, room_of, rooms_of, script_by}
use Rattle.usb_device.specs.Taken.{Taken}
use Rattle.usb_device.proofs.Filled.{IsFilling, all-filled, few-done, filled, left-is, next-room, next-script}
use Rattle.usb_device.proofs.Fits.{all-short, lawful}
use Rattle.usb_device.proofs.Sizes.{table_takes}
use Rattle.usb_device.proofs.table.TableDevice.new.Goals as goal
use Rattle.usb_device.proofs.table.TableDevice.new.Goals.{After-next_script, In-None}

-- the next room stands before those that are left
with_next : (c : After-next_script) → IsFilling c.args.config.now c.args.scripts c.loop-room.pipes.items c.loop-room.yielded (c.in-Some.room ∷ into_iter_items c.next.new.self) (into_iter_items c.loop-room.scripts)
with_next c =
    left-is c.args.config.now c.args.scripts c.loop-room.pipes.items c.loop-room.yielded (into_iter_items c.loop-room.room-iterator) (c.in-Some.room ∷ into_iter_items c.next.new.self) (into_iter_items c.loop-room.scripts)
    c.in-Some.ensures.steps.0 c.loop-room.invariant.filling

-- the next script is that of the next id
script_is : (c : After-next_script) → c.next_script.result.items ≡ script_by c.args.scripts (length c.loop-room.yielded)
script_is c =
    c.next_script.ensures.script
    ∙ next-script c.args.config.now c.args.scripts c.loop-room.pipes.items c.loop-room.yielded (c.in-Some.room ∷ into_iter_items c.next.new.self) (into_iter_items c.loop-room.scripts) (with_next c)

room_is : (c : After-next_script) → c.in-Some.room ≡ room_of c.args.config.now c.args.scripts (length c.loop-room.yielded)
room_is c = next-room c.args.config.now c.args.scripts c.loop-room.pipes.items c.loop-room.yielded (into_iter_items c.next.new.self) (into_iter_items c.loop-room.scripts) c.in-Some.room (with_next c)

pub loop-room-init : goal.loop-room-init
loop-room-init c = record {
  reserved = c.in-Ok-with_capacity.ensures.exact;
  filling = record {
    made = c.in-Ok-with_capacity.ensures.items;
    rooms = c.into_iter-room-iterator.ensures.into_iter_gives.0 ∙ c.in-Ok.ensures ∙ ap (rooms_of c.args.config.now) c.as_slice-2.ensures;
    behind = c.into_iter-scripts.ensures.rest ∙ c.into_vec.ensures;
    fit = ap (are_scripts c.args.config.now) (sym c.as_slice.ensures) ∙ sym c.are_scripts.ensures ∙ c.if-not-are_scripts.false;
  };
}

pub new-requires-clause-short : goal.new-requires-clause-short
new-requires-clause-short c =
    let c' = (goal.at.new-requires-clause-short c).After-next_script in
    rw (script_is c') (all-short c.args.config.now c.args.scripts (length c.loop-room.yielded) c.loop-room.invariant.filling.fit)

pub new-requires-clause-room : goal.new-requires-clause-room
new-requires-clause-room c =
    let c' = (goal.at.new-requires-clause-room c).After-next_script in
    rw (script_is c', room_is c') (omega arith)

pub new-requires-clause-fresh : goal.new-requires-clause-fresh
new-requires-clause-fresh c =
    ap (λ (t : Taken). t.packets) (room_is (goal.at.new-requires-clause-fresh c).After-next_script)

pub push_reserved-requires : goal.push_reserved-requires
push_reserved-requires c =
    let n = length c.loop-room.yielded in
    let h = with_next (goal.at.push_reserved-requires c).After-next_script in
    let few = few-done c.args.config.now c.args.scripts c.loop-room.pipes.items c.loop-room.yielded (c.in-Some.room ∷ into_iter_items c.next.new.self) (into_iter_items c.loop-room.scripts) h in
    let made = ap (λ (ps : List Pipe). length ps) h.made ∙ length-map-range_with_len (pipe_by c.args.config.now c.args.scripts) 0 n in
    omega (arith, c.loop-room.pipes.ok.0, few, made, c.loop-room.invariant.reserved)

pub loop-room-preserved : goal.loop-room-preserved
loop-room-preserved c =
    let c' = (goal.at.loop-room-preserved c).After-next_script in
    record {
      reserved = c.push_reserved.ensures.capacity ∙ c.loop-room.invariant.reserved;
      filling =
          rw (c.push_reserved.ensures.items, c.new.ensures, c.next_script.ensures.script, c.next_script.ensures.rest)
          (filled c.args.config.now c.args.scripts c.loop-room.pipes.items c.loop-room.yielded (into_iter_items c.next.new.self) (into_iter_items c.loop-room.scripts) c.in-Some.room (with_next c'));
    }

-- no room is left
at_end : (c : In-None) → IsFilling c.args.config.now c.args.scripts c.loop-room.pipes.items c.loop-room.yielded [] (into_iter_items c.loop-room.scripts)
at_end c =
    let none : into_iter_items c.loop-room.room-iterator ≡ [] = nil_from_length (into_iter_items c.loop-room.room-iterator) (omega (arith, c.loop-room.room-iterator.rest.ok.0, c.in-None.ensures.steps.0)) in
    left-is c.args.config.now c.args.scripts c.loop-room.pipes.items c.loop-room.yielded (into_iter_items c.loop-room.room-iterator) [] (into_iter_items c.loop-room.scripts) none c.loop-room.invariant.filling

pub invariant_of-result : goal.invariant_of-result
invariant_of-result c =
    let all = all-filled c.args.config.now c.args.scripts c.loop-room.pipes.items c.loop-room.yielded (into_iter_items c.loop-room.scripts) (at_end (goal.at.invariant_of-result c).In-None) in
    subst IsLawful (sym all) (lawful c.args.config.now c.args.scripts c.loop-room.invariant.filling.fit)

pub returns-clause-made : goal.returns-clause-made
returns-clause-made c =
    all-filled c.args.config.now c.args.scripts c.loop-room.pipes.items c.loop-room.yielded (into_iter_items c.loop-room.scripts) (at_end (goal.at.returns-clause-made c).In-None)

pub returns-clause-takes : goal.returns-clause-takes
returns-clause-takes c = subst (Takes c.args.config.now) (sym (returns-clause-made c)) (table_takes c.args.config.now c.args.scripts)
