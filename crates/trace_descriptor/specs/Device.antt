-- The beginning of a scenario that is made of a file of descriptors.
use Rattle.std.specs.Prelude.{ℕ, List, ◌++◌, Result, Ok, Err}
use Rattle.usb_model.specs.declared.setup.Configuration.{Configuration}
use Rattle.usb_descriptors.specs.declared.fault.DescFault.{DescFault}
use Rattle.usb_descriptors.specs.Grammar.{reading}
use Rattle.trace_faults.specs.declared.descriptor_fault.DescriptorFault.{DescriptorFault}
use Rattle.trace_faults.specs.declared.descriptor_fault.DescriptorFault.TheVariants.{Descriptor}
use Rattle.trace_descriptor.specs.File.{FileParts, parts_of}
use Rattle.trace_descriptor.specs.Input.{bytes_of}
use Rattle.trace_descriptor.specs.Identity.{identity_lines}
use Rattle.trace_descriptor.specs.Lines.{comments, device_line}

-- the comments, the line of the device, and what its device descriptor says
abbrev pub text_by : FileParts → Result Configuration DescFault → Result (List ℕ) DescriptorFault
text_by file (Err fault) = Err (Descriptor fault)
text_by file (Ok config) = Ok (comments file config ++ (device_line file.configuration ++ identity_lines file.device))

-- where the first configuration is taken
abbrev pub text_of_file : Result FileParts DescriptorFault → Result (List ℕ) DescriptorFault
text_of_file (Err fault) = Err fault
text_of_file (Ok file) = text_by file (reading file.configuration)

abbrev pub text_of_bytes : Result (List ℕ) DescriptorFault → Result (List ℕ) DescriptorFault
text_of_bytes (Err fault) = Err fault
text_of_bytes (Ok bytes) = text_of_file (parts_of bytes)

-- the text of an input, or why there is none
abbrev pub device_text : List ℕ → Result (List ℕ) DescriptorFault
device_text input = text_of_bytes (bytes_of input)
