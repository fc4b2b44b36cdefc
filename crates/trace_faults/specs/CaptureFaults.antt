-- Why no scenario is read from a capture.
use Rattle.std.specs.Prelude.{◌≡◌, ℕ, ◌/◌, ◌%◌, List, ◌++◌, codes, Result, Err, ⊤}
use Rattle.std.specs.Fmt.{decimal}
use Rattle.usb_model.specs.Text.{hex_byte}
use Rattle.trace_faults.specs.declared.capture_fault.CaptureFault.{CaptureFault}
use Rattle.trace_faults.specs.declared.capture_fault.CaptureFault.TheVariants.{NotACapture, HeaderCutShort, LinkType, NoInterface, NoDevice, Memory}
use Rattle.trace_faults.specs.declared.device_ids.DeviceIds.{DeviceIds}

-- as lsusb has them: four hexadecimal digits each
abbrev pub hex_number : ℕ → List ℕ
hex_number number = hex_byte (number / 256) ++ hex_byte (number % 256)

abbrev pub ids_text : DeviceIds → List ℕ
ids_text ids = hex_number ids.vendor ++ (codes ":" ++ hex_number ids.product)

-- a fault in words
abbrev pub capture_fault_text : CaptureFault → List ℕ
capture_fault_text NotACapture = codes "not a capture"
capture_fault_text HeaderCutShort = codes "a file header cut short"
capture_fault_text (LinkType link) = codes "link type " ++ decimal link
capture_fault_text NoInterface = codes "no interface of usbmon or USBPcap"
capture_fault_text (NoDevice ids) = codes "no device " ++ ids_text ids
capture_fault_text Memory = codes "out of memory"

-- the fault is that of the definition, or of memory
abbrev pub IsCaptureFault : {T : Type 0} → CaptureFault → Result T CaptureFault → Type 0
IsCaptureFault Memory result = ⊤
IsCaptureFault fault result = result ≡ Err fault
