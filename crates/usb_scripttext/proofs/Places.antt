-- Places of scripts.
use Rattle.std.proofs.Common.{◌≡◌, ℕ, zero, suc, ◌<◌, true, List, [], ◌∷◌, length, arith}
use Rattle.usb_model.specs.declared.response.Response.{Response}
use Rattle.usb_scripttext.specs.Devices.{is_free}

-- a place with room is one of the scripts
pub free_place : (id : ℕ) (scripts : List (List Response)) → is_free id scripts ≡ true → id < length scripts
free_place id [] free = cc
free_place zero (script ∷ scripts) free = omega arith
free_place (suc id) (script ∷ scripts) free = omega (arith, free_place id scripts free)
