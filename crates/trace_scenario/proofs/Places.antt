-- Places of scripts.
use Rattle.std.proofs.Common.{◌≡◌, ℕ, zero, suc, ◌+◌, ◌<◌, true, List, [], ◌∷◌, length, get_or, slice_set, arith, refl, ap}
use Rattle.std.proofs.lemmas.Bool.{le-leb, leb-true}
use Rattle.usb_model.specs.declared.response.Response.{Response}
use Rattle.usb_model.specs.Limits.{longest_script}
use Rattle.trace_scenario.specs.Scenario.{has_room, script_at}
use Rattle.usb_scripttext.specs.Devices.{is_free}

-- a place with room for more is one of the scripts
pub room_place : (id more : ℕ) (scripts : List (List Response)) → has_room id more scripts ≡ true → id < length scripts
room_place id more [] room = cc
room_place zero more (script ∷ scripts) room = omega arith
room_place (suc id) more (script ∷ scripts) room = omega (arith, room_place id more scripts room)

-- what stands at such a place is the script there
pub room_read : (id more : ℕ) (scripts : List (List Response)) (d : List Response) → has_room id more scripts ≡ true → get_or scripts id d ≡ script_at id scripts
room_read id more [] d room = cc
room_read zero more (script ∷ scripts) d room = refl
room_read (suc id) more (script ∷ scripts) d room = room_read id more scripts d room

-- room for more is room for none
pub room_for_none : (id more : ℕ) (scripts : List (List Response)) → has_room id more scripts ≡ true → has_room id 0 scripts ≡ true
room_for_none id more [] room = cc
room_for_none zero more (script ∷ scripts) room = le-leb (length script + 0) longest_script (omega (arith, leb-true (length script + more) longest_script room))
room_for_none (suc id) more (script ∷ scripts) room = room_for_none id more scripts room

-- a place whose script was taken is free
pub freed : (id more : ℕ) (scripts : List (List Response)) → has_room id more scripts ≡ true → is_free id (slice_set scripts id []) ≡ true
freed id more [] room = cc
freed zero more (script ∷ scripts) room = refl
freed (suc id) more (script ∷ scripts) room = freed id more scripts room

-- what is put there stands where the script stood
pub put_back : (id : ℕ) (scripts : List (List Response)) (one other : List Response) → slice_set (slice_set scripts id one) id other ≡ slice_set scripts id other
put_back id [] one other = refl
put_back zero (script ∷ scripts) one other = refl
put_back (suc id) (script ∷ scripts) one other = ap (λ l. script ∷ l) (put_back id scripts one other)
