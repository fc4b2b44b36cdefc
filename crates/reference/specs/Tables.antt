-- What the plain program keeps, as the definitions' world.
use Rattle.std.specs.Prelude.{ℕ, ◌+◌, ◌*◌, nat_lt, ◌&&◌, List, Option, None, slice_index_or, if◌then◌else◌}
use Rattle.usb_model.specs.declared.handle.Handle.{Handle}
use Rattle.usb_model.specs.Machine.{unused}
use Rattle.usb_model.specs.World.{is_its}

-- the cell of a device, 0 to 3, and a byte; outside, what stands for all others
unfoldable pub cell_at : {T : Type 0} → T → List T → ℕ → ℕ → T
cell_at other cells d k = if nat_lt d 4 && nat_lt k 256 then slice_index_or cells (256 * d + k) other else other

-- what is kept of a name, 0 to 63; every other is unused
abbrev pub handle_at : List Handle → ℕ → Handle
handle_at handles h = slice_index_or handles h unused

-- whoever held it, but the name
abbrev pub freed : ℕ → Option ℕ → Option ℕ
freed h o = if is_its h o then None else o
