-- The Normal TRBs of a transfer (xHCI 1.2, 4.9.1, 4.10.1, 4.11.3, 6.4.1.1).
use Rattle.std.specs.Prelude.{ℕ, ◌+◌, ◌*◌, ◌%◌, ◌^◌, Bool, true, false, not, List, [], ◌∷◌, ◌++◌, if◌then◌else◌}
use Rattle.usb_trb.specs.declared.kind.Normal.{Normal as NormalTrb}
use Rattle.usb_model.specs.Stands.{lengths_of}
use Rattle.usb_tables.specs.Tds.{Tds}

-- where the transfer with this key has its buffer: 262,144 bytes for each of 2^32 keys, from 4 GiB on. The address stands in the TRBs
-- alone; nothing is found by it
abbrev pub buffer_of : ℕ → ℕ
buffer_of key = 0x1_0000_0000 + (key % 2 ^ 32) * 0x4_0000

-- a TRB of so many bytes at this address, with ISP, CH and IOC
abbrev pub normal_at : (short chain done : Bool) → ℕ → ℕ → NormalTrb
normal_at short chain done address bytes = record { buffer = address; length = bytes; short = short; chain = chain; done = done }

-- the TRBs of one TD, whose bytes lie from this address on: for each length one, whose bytes begin where those before end. ISP is in each for
-- IN, CH in each but the last, IOC in the last of a TD that ends the transfer (xHCI 1.2, 6.4.1.1)
abbrev pub td_at : (inward ends : Bool) → ℕ → List ℕ → List NormalTrb
td_at inward ends address [] = []
td_at inward ends address (l ∷ []) = normal_at inward false ends address l ∷ []
td_at inward ends address (l ∷ m ∷ ls) = normal_at inward true false address l ∷ td_at inward ends (address + l) (m ∷ ls)

-- the TRBs of a transfer, whose bytes lie from this address on: the TD of its bytes, and behind it that of an empty packet
abbrev pub normals_at : ℕ → Tds → List NormalTrb
normals_at address t =
    td_at t.inward (not t.extra) address (lengths_of false t.length)
    ++ (if t.extra then td_at t.inward true (address + t.length) (0 ∷ []) else [])

-- those of the transfer with this key
abbrev pub normals_of : ℕ → Tds → List NormalTrb
normals_of key t = normals_at (buffer_of key) t

-- the lengths of TRBs
abbrev pub lengths_in : List NormalTrb → List ℕ
lengths_in [] = []
lengths_in (x ∷ xs) = x.length ∷ lengths_in xs
