-- The TRBs of a few requests, computed.
use Rattle.std.specs.Prelude.{◌≡◌, true, false, [], ◌∷◌}
use Rattle.usb_tables.specs.Trbs.{normal_at, normals_of}

-- IN of 8 bytes under key 0, as TRBs; OUT of 512 and an empty packet under key 1; IN of 65,537 under key 2^32
abbrev pub HasTrbs : Type 0
HasTrbs =
    (normals_of 0 (record { length = 8; extra = false; inward = true }) ≡ normal_at true false true 0x1_0000_0000 8 ∷ [])
    × (normals_of 1 (record { length = 512; extra = true; inward = false }) ≡ normal_at false false false 0x1_0004_0000 512 ∷ normal_at false false true 0x1_0004_0200 0 ∷ [])
    × (normals_of 0x1_0000_0000 (record { length = 65537; extra = false; inward = true }) ≡ normal_at true true false 0x1_0000_0000 65536 ∷ normal_at true false true 0x1_0001_0000 1 ∷ [])
