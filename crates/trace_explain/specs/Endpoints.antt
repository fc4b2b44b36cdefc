-- The endpoints that a device has, as a reason names them.
use Rattle.std.specs.Prelude.{ℕ, ◌+◌, nat_lt, List, Option, Some, None, replicate, take, slice_set, if◌then◌else◌}
use Rattle.std.specs.List.{fold}
use Rattle.usb_model.specs.declared.setup.EndpointInfo.{EndpointInfo}
use Rattle.usb_model.specs.Setup.{Setup, endpoints_of}
use Rattle.trace_explain.specs.declared.endpoints.EndpointList.{EndpointList}

-- how many are named at most
abbrev pub most_named : ℕ
most_named = 32

-- none so far
abbrev pub no_endpoints : EndpointList
no_endpoints = record { addresses = replicate most_named 0; count = 0 }

-- one more, where there is room for it
abbrev pub with_endpoint : EndpointList → EndpointInfo → EndpointList
with_endpoint list info = if nat_lt list.count most_named then record { addresses = slice_set list.addresses list.count info.address; count = list.count + 1 } else list

-- those of a configuration, in the order of their descriptors
abbrev pub listed : List EndpointInfo → EndpointList
listed infos = fold with_endpoint no_endpoints infos

-- their addresses
abbrev pub addresses_in : EndpointList → List ℕ
addresses_in list = take list.count list.addresses

-- those of the device that is open, if one is
abbrev pub listed_of : Setup → Option ℕ → EndpointList
listed_of setup None = no_endpoints
listed_of setup (Some dev) = listed (endpoints_of setup dev)
