-- The captures of worked runs, computed: by the definitions of the model, the run's entries, and by those of this crate their bytes.
use Rattle.std.specs.Prelude.{◌≡◌, ℕ, List, [], ◌∷◌, ◌++◌, map}
use Rattle.std.specs.List.{flat_map, zip}
use Rattle.byteorder.specs.Endian.{big_bytes}
use Rattle.usb_model.specs.declared.request.Body.{Body}
use Rattle.usb_model.specs.declared.request.Body.TheVariants.{In, Out}
use Rattle.usb_model.specs.declared.request.Kind.TheVariants.{Bulk, Interrupt}
use Rattle.usb_model.specs.declared.request.Request.{Request}
use Rattle.usb_model.specs.declared.response.Response.{Response}
use Rattle.usb_model.specs.declared.response.Response.TheVariants.{Data, Ack, Stall}
use Rattle.usb_model.specs.declared.step.Step.{Step}
use Rattle.usb_model.specs.declared.step.Step.TheVariants.{Open, Claim, ClearHalt, Submit, Cancel, Serve, Command, Deliver, Take, Unplug}
use Rattle.usb_model.specs.Setup.{Setup}
use Rattle.usb_model.specs.World.Journal.{journal}
use Rattle.trace_capture.specs.Event.{file_bytes}
use Rattle.trace_capture.specs.Events.{DeviceLine, run_events}

-- one device, from line 1: its configuration has the bulk endpoints 81 and 02 and the interrupt endpoint 83, of packet size 8
abbrev pub worked_line : DeviceLine
worked_line = record {
  line = 1;
  device = 0;
  descriptor =
      9 ∷ 2 ∷ 0x30 ∷ 0 ∷ 2 ∷ 1 ∷ 0 ∷ 0x80 ∷ 0x32
      ∷ 9 ∷ 4 ∷ 0 ∷ 0 ∷ 2 ∷ 0xff ∷ 0 ∷ 0 ∷ 0
      ∷ 7 ∷ 5 ∷ 0x81 ∷ 2 ∷ 8 ∷ 0 ∷ 0
      ∷ 7 ∷ 5 ∷ 2 ∷ 2 ∷ 8 ∷ 0 ∷ 0
      ∷ 9 ∷ 4 ∷ 1 ∷ 0 ∷ 1 ∷ 0xff ∷ 0 ∷ 0 ∷ 0
      ∷ 7 ∷ 5 ∷ 0x83 ∷ 3 ∷ 8 ∷ 0 ∷ 10
      ∷ [];
}

-- the same as it is set up, with what it will answer at 81 and at 02
abbrev pub worked_setup : List Response → List Response → Setup
worked_setup of_81 of_02 = record {
  config = record {
    interfaces = 0 ∷ 1 ∷ [];
    endpoints =
        record { address = 0x81; interface = 0; kind = Bulk; packet_size = 8 }
        ∷ record { address = 0x02; interface = 0; kind = Bulk; packet_size = 8 }
        ∷ record { address = 0x83; interface = 1; kind = Interrupt; packet_size = 8 }
        ∷ [];
  };
  scripts = [] ∷ [] ∷ [] ∷ of_81 ∷ of_02 ∷ [];
} ∷ []

-- a bulk request with these flags
abbrev pub asked : ℕ → ℕ → Body → Request
asked ep flags body = record { ep = ep; kind = Bulk; flags = record { 0 = flags }; timeout = 0; body = body }

-- a worked run: its device, its steps, each with its line, and the bytes of its capture
pub record Worked : Type 0 where
  pub setup : Setup
  pub steps : List (ℕ × Step)
  pub bytes : List ℕ

-- the capture of the run has these bytes
abbrev pub IsCaptured : Worked → Type 0
IsCaptured w = file_bytes (run_events (worked_line ∷ []) (zip (map (λ x. x.0) w.steps) (journal w.setup (map (λ x. x.1) w.steps)))) ≡ w.bytes

-- bytes, four at a time
abbrev pub fours : List ℕ → List ℕ
fours groups = flat_map (big_bytes 4) groups

-- what each capture begins with: the file's header, and what comes of the device's line
abbrev pub device_bytes : List ℕ
device_bytes =
    fours (0xd4c3_b2a1 ∷ 0x0200_0400 ∷ 0x0000_0000 ∷ 0x0000_0000 ∷ 0x4000_0400 ∷ 0xdc00_0000 ∷ [])
    -- line 1: GET_DESCRIPTOR
    ++ fours (
    0x0000_0000 ∷ 0x0100_0000 ∷ 0x4000_0000 ∷ 0x4000_0000
    ∷ 0x0200_0000 ∷ 0xffff_ffff ∷ 0x5302_8001 ∷ 0x0100_003c ∷ 0x0000_0000 ∷ 0x0000_0000 ∷ 0x0100_0000 ∷ 0x8dff_ffff
    ∷ 0x3000_0000 ∷ 0x0000_0000 ∷ 0x8006_0002 ∷ 0x0000_3000 ∷ 0x0000_0000 ∷ 0x0000_0000 ∷ 0x0002_0000 ∷ 0x0000_0000 ∷ [])
    -- its callback
    ++ fours (
    0x0000_0000 ∷ 0x0100_0000 ∷ 0x7000_0000 ∷ 0x7000_0000
    ∷ 0x0200_0000 ∷ 0xffff_ffff ∷ 0x4302_8001 ∷ 0x0100_2d00 ∷ 0x0000_0000 ∷ 0x0000_0000 ∷ 0x0100_0000 ∷ 0x0000_0000
    ∷ 0x3000_0000 ∷ 0x3000_0000 ∷ 0x0000_0000 ∷ 0x0000_0000 ∷ 0x0000_0000 ∷ 0x0000_0000 ∷ 0x0002_0000 ∷ 0x0000_0000
    ∷ 0x0902_3000 ∷ 0x0201_0080 ∷ 0x3209_0400 ∷ 0x0002_ff00 ∷ 0x0000_0705 ∷ 0x8102_0800 ∷ 0x0007_0502 ∷ 0x0208_0000
    ∷ 0x0904_0100 ∷ 0x01ff_0000 ∷ 0x0007_0583 ∷ 0x0308_000a ∷ [])
    -- line 1: SET_CONFIGURATION
    ++ fours (
    0x0000_0000 ∷ 0x0100_0000 ∷ 0x4000_0000 ∷ 0x4000_0000
    ∷ 0x0300_0000 ∷ 0xffff_ffff ∷ 0x5302_0001 ∷ 0x0100_0000 ∷ 0x0000_0000 ∷ 0x0000_0000 ∷ 0x0100_0000 ∷ 0x8dff_ffff
    ∷ 0x0000_0000 ∷ 0x0000_0000 ∷ 0x0009_0100 ∷ 0x0000_0000 ∷ 0x0000_0000 ∷ 0x0000_0000 ∷ 0x0000_0000 ∷ 0x0000_0000 ∷ [])
    -- its callback
    ++ fours (
    0x0000_0000 ∷ 0x0100_0000 ∷ 0x4000_0000 ∷ 0x4000_0000
    ∷ 0x0300_0000 ∷ 0xffff_ffff ∷ 0x4302_0001 ∷ 0x0100_2d3e ∷ 0x0000_0000 ∷ 0x0000_0000 ∷ 0x0100_0000 ∷ 0x0000_0000
    ∷ 0x0000_0000 ∷ 0x0000_0000 ∷ 0x0000_0000 ∷ 0x0000_0000 ∷ 0x0000_0000 ∷ 0x0000_0000 ∷ 0x0000_0000 ∷ 0x0000_0000 ∷ [])

-- a read of 24 bytes is cancelled behind its first packet
abbrev pub cancelled_read_bytes : List ℕ
cancelled_read_bytes =
    device_bytes
    -- line 4: SET_INTERFACE
    ++ fours (
    0x0000_0000 ∷ 0x0400_0000 ∷ 0x4000_0000 ∷ 0x4000_0000
    ∷ 0x0800_0000 ∷ 0xffff_ffff ∷ 0x5302_0001 ∷ 0x0100_0000 ∷ 0x0000_0000 ∷ 0x0000_0000 ∷ 0x0400_0000 ∷ 0x8dff_ffff
    ∷ 0x0000_0000 ∷ 0x0000_0000 ∷ 0x010b_0000 ∷ 0x0000_0000 ∷ 0x0000_0000 ∷ 0x0000_0000 ∷ 0x0000_0000 ∷ 0x0000_0000 ∷ [])
    -- its callback
    ++ fours (
    0x0000_0000 ∷ 0x0400_0000 ∷ 0x4000_0000 ∷ 0x4000_0000
    ∷ 0x0800_0000 ∷ 0xffff_ffff ∷ 0x4302_0001 ∷ 0x0100_2d3e ∷ 0x0000_0000 ∷ 0x0000_0000 ∷ 0x0400_0000 ∷ 0x0000_0000
    ∷ 0x0000_0000 ∷ 0x0000_0000 ∷ 0x0000_0000 ∷ 0x0000_0000 ∷ 0x0000_0000 ∷ 0x0000_0000 ∷ 0x0000_0000 ∷ 0x0000_0000 ∷ [])
    -- line 5: a read of 24 bytes
    ++ fours (
    0x0000_0000 ∷ 0x0500_0000 ∷ 0x4000_0000 ∷ 0x4000_0000
    ∷ 0x0000_0000 ∷ 0x0200_0000 ∷ 0x5303_8101 ∷ 0x0100_2d3c ∷ 0x0000_0000 ∷ 0x0000_0000 ∷ 0x0500_0000 ∷ 0x8dff_ffff
    ∷ 0x1800_0000 ∷ 0x0000_0000 ∷ 0x0000_0000 ∷ 0x0000_0000 ∷ 0x0000_0000 ∷ 0x0000_0000 ∷ 0x0002_0000 ∷ 0x0000_0000 ∷ [])
    -- line 11: called back, -2, 8 bytes
    ++ fours (
    0x0000_0000 ∷ 0x0b00_0000 ∷ 0x4800_0000 ∷ 0x4800_0000
    ∷ 0x0000_0000 ∷ 0x0200_0000 ∷ 0x4303_8101 ∷ 0x0100_2d00 ∷ 0x0000_0000 ∷ 0x0000_0000 ∷ 0x0b00_0000 ∷ 0xfeff_ffff
    ∷ 0x0800_0000 ∷ 0x0800_0000 ∷ 0x0000_0000 ∷ 0x0000_0000 ∷ 0x0000_0000 ∷ 0x0000_0000 ∷ 0x0002_0000 ∷ 0x0000_0000
    ∷ 0x0102_0304 ∷ 0x0506_0708 ∷ [])

abbrev pub cancelled_read : Worked
cancelled_read = record {
  setup = worked_setup (Data (1 ∷ 2 ∷ 3 ∷ 4 ∷ 5 ∷ 6 ∷ 7 ∷ 8 ∷ []) ∷ []) [];
  steps =
      (3, Open 1 0) ∷ (4, Claim 1 0) ∷ (5, Submit 1 (asked 0x81 0 (In 24))) ∷ (6, Serve 0 0x81) ∷ (7, Cancel 1 0)
      ∷ (8, Command) ∷ (9, Deliver) ∷ (10, Deliver) ∷ (11, Take) ∷ (12, Command) ∷ (13, Deliver) ∷ [];
  bytes = cancelled_read_bytes;
}

-- a read is stalled, and with it the one behind; the halt is cleared; a read is too short, where that is an error; a write has an empty packet behind it; the device is unplugged amid a read
abbrev pub failed_transfers_bytes : List ℕ
failed_transfers_bytes =
    device_bytes
    -- line 5: SET_INTERFACE
    ++ fours (
    0x0000_0000 ∷ 0x0500_0000 ∷ 0x4000_0000 ∷ 0x4000_0000
    ∷ 0x0a00_0000 ∷ 0xffff_ffff ∷ 0x5302_0001 ∷ 0x0100_0000 ∷ 0x0000_0000 ∷ 0x0000_0000 ∷ 0x0500_0000 ∷ 0x8dff_ffff
    ∷ 0x0000_0000 ∷ 0x0000_0000 ∷ 0x010b_0000 ∷ 0x0000_0000 ∷ 0x0000_0000 ∷ 0x0000_0000 ∷ 0x0000_0000 ∷ 0x0000_0000 ∷ [])
    -- its callback
    ++ fours (
    0x0000_0000 ∷ 0x0500_0000 ∷ 0x4000_0000 ∷ 0x4000_0000
    ∷ 0x0a00_0000 ∷ 0xffff_ffff ∷ 0x4302_0001 ∷ 0x0100_2d3e ∷ 0x0000_0000 ∷ 0x0000_0000 ∷ 0x0500_0000 ∷ 0x0000_0000
    ∷ 0x0000_0000 ∷ 0x0000_0000 ∷ 0x0000_0000 ∷ 0x0000_0000 ∷ 0x0000_0000 ∷ 0x0000_0000 ∷ 0x0000_0000 ∷ 0x0000_0000 ∷ [])
    -- line 6: a read of 8 bytes
    ++ fours (
    0x0000_0000 ∷ 0x0600_0000 ∷ 0x4000_0000 ∷ 0x4000_0000
    ∷ 0x0000_0000 ∷ 0x0200_0000 ∷ 0x5303_8101 ∷ 0x0100_2d3c ∷ 0x0000_0000 ∷ 0x0000_0000 ∷ 0x0600_0000 ∷ 0x8dff_ffff
    ∷ 0x0800_0000 ∷ 0x0000_0000 ∷ 0x0000_0000 ∷ 0x0000_0000 ∷ 0x0000_0000 ∷ 0x0000_0000 ∷ 0x0002_0000 ∷ 0x0000_0000 ∷ [])
    -- line 7: a read of 8 bytes
    ++ fours (
    0x0000_0000 ∷ 0x0700_0000 ∷ 0x4000_0000 ∷ 0x4000_0000
    ∷ 0x0100_0000 ∷ 0x0200_0000 ∷ 0x5303_8101 ∷ 0x0100_2d3c ∷ 0x0000_0000 ∷ 0x0000_0000 ∷ 0x0700_0000 ∷ 0x8dff_ffff
    ∷ 0x0800_0000 ∷ 0x0000_0000 ∷ 0x0000_0000 ∷ 0x0000_0000 ∷ 0x0000_0000 ∷ 0x0000_0000 ∷ 0x0002_0000 ∷ 0x0000_0000 ∷ [])
    -- line 10: called back, -32, 0 bytes
    ++ fours (
    0x0000_0000 ∷ 0x0a00_0000 ∷ 0x4000_0000 ∷ 0x4000_0000
    ∷ 0x0000_0000 ∷ 0x0200_0000 ∷ 0x4303_8101 ∷ 0x0100_2d00 ∷ 0x0000_0000 ∷ 0x0000_0000 ∷ 0x0a00_0000 ∷ 0xe0ff_ffff
    ∷ 0x0000_0000 ∷ 0x0000_0000 ∷ 0x0000_0000 ∷ 0x0000_0000 ∷ 0x0000_0000 ∷ 0x0000_0000 ∷ 0x0002_0000 ∷ 0x0000_0000 ∷ [])
    -- line 17: called back, -32, 0 bytes
    ++ fours (
    0x0000_0000 ∷ 0x1100_0000 ∷ 0x4000_0000 ∷ 0x4000_0000
    ∷ 0x0100_0000 ∷ 0x0200_0000 ∷ 0x4303_8101 ∷ 0x0100_2d00 ∷ 0x0000_0000 ∷ 0x0000_0000 ∷ 0x1100_0000 ∷ 0xe0ff_ffff
    ∷ 0x0000_0000 ∷ 0x0000_0000 ∷ 0x0000_0000 ∷ 0x0000_0000 ∷ 0x0000_0000 ∷ 0x0000_0000 ∷ 0x0002_0000 ∷ 0x0000_0000 ∷ [])
    -- line 18: CLEAR_FEATURE
    ++ fours (
    0x0000_0000 ∷ 0x1200_0000 ∷ 0x4000_0000 ∷ 0x4000_0000
    ∷ 0x2400_0000 ∷ 0xffff_ffff ∷ 0x5302_0001 ∷ 0x0100_0000 ∷ 0x0000_0000 ∷ 0x0000_0000 ∷ 0x1200_0000 ∷ 0x8dff_ffff
    ∷ 0x0000_0000 ∷ 0x0000_0000 ∷ 0x0201_0000 ∷ 0x8100_0000 ∷ 0x0000_0000 ∷ 0x0000_0000 ∷ 0x0000_0000 ∷ 0x0000_0000 ∷ [])
    -- its callback
    ++ fours (
    0x0000_0000 ∷ 0x1200_0000 ∷ 0x4000_0000 ∷ 0x4000_0000
    ∷ 0x2400_0000 ∷ 0xffff_ffff ∷ 0x4302_0001 ∷ 0x0100_2d3e ∷ 0x0000_0000 ∷ 0x0000_0000 ∷ 0x1200_0000 ∷ 0x0000_0000
    ∷ 0x0000_0000 ∷ 0x0000_0000 ∷ 0x0000_0000 ∷ 0x0000_0000 ∷ 0x0000_0000 ∷ 0x0000_0000 ∷ 0x0000_0000 ∷ 0x0000_0000 ∷ [])
    -- line 23: a read of 8 bytes
    ++ fours (
    0x0000_0000 ∷ 0x1700_0000 ∷ 0x4000_0000 ∷ 0x4000_0000
    ∷ 0x0200_0000 ∷ 0x0200_0000 ∷ 0x5303_8101 ∷ 0x0100_2d3c ∷ 0x0000_0000 ∷ 0x0000_0000 ∷ 0x1700_0000 ∷ 0x8dff_ffff
    ∷ 0x0800_0000 ∷ 0x0000_0000 ∷ 0x0000_0000 ∷ 0x0000_0000 ∷ 0x0000_0000 ∷ 0x0000_0000 ∷ 0x0102_0000 ∷ 0x0000_0000 ∷ [])
    -- line 26: called back, -121, 1 byte
    ++ fours (
    0x0000_0000 ∷ 0x1a00_0000 ∷ 0x4100_0000 ∷ 0x4100_0000
    ∷ 0x0200_0000 ∷ 0x0200_0000 ∷ 0x4303_8101 ∷ 0x0100_2d00 ∷ 0x0000_0000 ∷ 0x0000_0000 ∷ 0x1a00_0000 ∷ 0x87ff_ffff
    ∷ 0x0100_0000 ∷ 0x0100_0000 ∷ 0x0000_0000 ∷ 0x0000_0000 ∷ 0x0000_0000 ∷ 0x0000_0000 ∷ 0x0102_0000 ∷ 0x0000_0000 ∷ [])
    ++ 1 ∷ []
    -- line 27: a write of 16 bytes
    ++ fours (
    0x0000_0000 ∷ 0x1b00_0000 ∷ 0x5000_0000 ∷ 0x5000_0000
    ∷ 0x0300_0000 ∷ 0x0200_0000 ∷ 0x5303_0201 ∷ 0x0100_2d00 ∷ 0x0000_0000 ∷ 0x0000_0000 ∷ 0x1b00_0000 ∷ 0x8dff_ffff
    ∷ 0x1000_0000 ∷ 0x1000_0000 ∷ 0x0000_0000 ∷ 0x0000_0000 ∷ 0x0000_0000 ∷ 0x0000_0000 ∷ 0x4000_0000 ∷ 0x0000_0000
    ∷ 0x0001_0203 ∷ 0x0405_0607 ∷ 0x0809_0a0b ∷ 0x0c0d_0e0f ∷ [])
    -- line 32: called back, 0, 16 bytes
    ++ fours (
    0x0000_0000 ∷ 0x2000_0000 ∷ 0x4000_0000 ∷ 0x4000_0000
    ∷ 0x0300_0000 ∷ 0x0200_0000 ∷ 0x4303_0201 ∷ 0x0100_2d3e ∷ 0x0000_0000 ∷ 0x0000_0000 ∷ 0x2000_0000 ∷ 0x0000_0000
    ∷ 0x1000_0000 ∷ 0x0000_0000 ∷ 0x0000_0000 ∷ 0x0000_0000 ∷ 0x0000_0000 ∷ 0x0000_0000 ∷ 0x4000_0000 ∷ 0x0000_0000 ∷ [])
    -- line 33: a read of 8 bytes
    ++ fours (
    0x0000_0000 ∷ 0x2100_0000 ∷ 0x4000_0000 ∷ 0x4000_0000
    ∷ 0x0400_0000 ∷ 0x0200_0000 ∷ 0x5303_8101 ∷ 0x0100_2d3c ∷ 0x0000_0000 ∷ 0x0000_0000 ∷ 0x2100_0000 ∷ 0x8dff_ffff
    ∷ 0x0800_0000 ∷ 0x0000_0000 ∷ 0x0000_0000 ∷ 0x0000_0000 ∷ 0x0000_0000 ∷ 0x0000_0000 ∷ 0x0002_0000 ∷ 0x0000_0000 ∷ [])
    -- line 37: called back, -108, 0 bytes
    ++ fours (
    0x0000_0000 ∷ 0x2500_0000 ∷ 0x4000_0000 ∷ 0x4000_0000
    ∷ 0x0400_0000 ∷ 0x0200_0000 ∷ 0x4303_8101 ∷ 0x0100_2d00 ∷ 0x0000_0000 ∷ 0x0000_0000 ∷ 0x2500_0000 ∷ 0x94ff_ffff
    ∷ 0x0000_0000 ∷ 0x0000_0000 ∷ 0x0000_0000 ∷ 0x0000_0000 ∷ 0x0000_0000 ∷ 0x0000_0000 ∷ 0x0002_0000 ∷ 0x0000_0000 ∷ [])

abbrev pub failed_transfers : Worked
failed_transfers = record {
  setup = worked_setup (Stall ∷ Data (1 ∷ []) ∷ []) (Ack ∷ Ack ∷ Ack ∷ []);
  steps =
      (4, Open 1 0) ∷ (5, Claim 1 0) ∷ (6, Submit 1 (asked 0x81 0 (In 8))) ∷ (7, Submit 1 (asked 0x81 0 (In 8)))
      ∷ (8, Serve 0 0x81) ∷ (9, Deliver) ∷ (10, Take) ∷ (11, Command) ∷ (12, Deliver) ∷ (13, Command)
      ∷ (14, Deliver) ∷ (15, Serve 0 0x81) ∷ (16, Deliver) ∷ (17, Take) ∷ (18, ClearHalt 1 0x81) ∷ (19, Command)
      ∷ (20, Deliver) ∷ (21, Command) ∷ (22, Deliver) ∷ (23, Submit 1 (asked 0x81 1 (In 8))) ∷ (24, Serve 0 0x81)
      ∷ (25, Deliver) ∷ (26, Take)
      ∷ (27, Submit 1 (asked 0x02 8 (Out (0 ∷ 1 ∷ 2 ∷ 3 ∷ 4 ∷ 5 ∷ 6 ∷ 7 ∷ 8 ∷ 9 ∷ 0x0a ∷ 0x0b ∷ 0x0c ∷ 0x0d ∷ 0x0e ∷ 0x0f ∷ []))))
      ∷ (28, Serve 0 0x02) ∷ (29, Serve 0 0x02) ∷ (30, Serve 0 0x02) ∷ (31, Deliver) ∷ (32, Take)
      ∷ (33, Submit 1 (asked 0x81 0 (In 8))) ∷ (34, Unplug 0) ∷ (35, Serve 0 0x81) ∷ (36, Deliver) ∷ (37, Take) ∷ [];
  bytes = failed_transfers_bytes;
}
