-- What a piece does to what is read, by what its descriptor is.
use Rattle.std.proofs.Common.{◌≡◌, ℕ, ◌%◌, ◌==◌, nat_lt, nat_le, Bool, true, false, cond, not, ◌&&◌, List, [], ◌∷◌, ◌++◌, length, Option, Some, None, Result, Ok, Err, refl, sym, ◌∙◌, ap, ap₂, arith}
use Rattle.std.proofs.lemmas.Bool.{eqb-true, cond-true, cond-false}
use Rattle.std.proofs.lemmas.List.{append-nil}
use Rattle.usb_model.specs.declared.setup.EndpointInfo.{EndpointInfo}
use Rattle.usb_descriptors.specs.declared.fault.DescFault.{DescFault}
use Rattle.usb_descriptors.specs.declared.fault.DescFault.TheVariants.{WrongType, BadLength, TooMany}
use Rattle.usb_descriptors.specs.declared.descriptor.Descriptor.{Descriptor}
use Rattle.usb_descriptors.specs.declared.descriptor.Descriptor.TheVariants as descriptor
use Rattle.usb_descriptors.specs.declared.descriptor.Interface.{Interface}
use Rattle.usb_descriptors.specs.declared.descriptor.Endpoint.{Endpoint}
use Rattle.usb_descriptors.specs.Pieces.{Piece, byte}
use Rattle.usb_descriptors.specs.Grammar.{type_of, is_interface, is_endpoint, interface_number, address_of, kind_of, packet_size_of, is_used, interfaces, nearest, endpoints, kept, kept_under, faults_of_kept, is_none_before, faults_of}
use Rattle.usb_descriptors.specs.Descriptors.{descriptor_of}
use Rattle.usb_descriptors.specs.Table.{faults_beside}
use Rattle.usb_descriptors.specs.declared.reader.Reader.{Reader}
use Rattle.usb_descriptors.specs.Reader.{is_new, nearest_in, HasRead}
use Rattle.usb_descriptors.proofs.OneMore.{interfaces-push, endpoints-push, nearest-interface, nearest-other, numbers_used}

-- what one more piece does: its fault, and what is read with it
pub record StepsTo (before : List Piece) (p : Piece) (found : List DescFault) (numbers : List ℕ) (infos : List EndpointInfo) (near : Option (Option ℕ)) : Type 0 where
  pub faults : faults_of before p ≡ found
  pub interfaces : interfaces (before ++ p ∷ []) ≡ numbers
  pub endpoints : endpoints (before ++ p ∷ []) ≡ infos
  pub section : nearest (before ++ p ∷ []) ≡ near

-- a reader that is left so has read a piece without a fault
pub reads_on : {before : List Piece} {p : Piece} {found : List DescFault} {numbers : List ℕ} {infos : List EndpointInfo} {near : Option (Option ℕ)} (new : Reader)
    → StepsTo before p found numbers infos near → found ≡ []
    → new.config ≡ record { interfaces = numbers; endpoints = infos } → nearest_in new.section ≡ near
    → (faults_of before p ≡ []) × HasRead (before ++ p ∷ []) new
reads_on new step none config section =
    let same = ap₂ (λ n e. record { interfaces = n; endpoints = e }) step.interfaces step.endpoints in
    (step.faults ∙ none, record { config = config ∙ sym same; section = section ∙ sym step.section })

-- the fields of a piece that is taken for an interface, and for an endpoint
abbrev interface_at : Piece → Interface
interface_at p = record { number = interface_number p; setting = byte 3 p.bytes }

abbrev endpoint_at : Piece → Endpoint
endpoint_at p = record { address = address_of p; kind = kind_of p; packet_size = packet_size_of p }

-- a descriptor by the tests of its type and length
abbrev decided : Bool → Bool → Bool → Bool → Bool → ℕ → Interface → Endpoint → Result Descriptor DescFault
decided two four short five shorter at interface endpoint =
    cond two (Err (WrongType at))
    (cond four (cond short (Err (BadLength at)) (Ok (descriptor.Interface interface)))
    (cond five (cond shorter (Err (BadLength at)) (Ok (descriptor.Endpoint endpoint)))
    (Ok descriptor.Other)))

-- an interface comes of type 4 and no less than 9 bytes
decided_interface : (two four short five shorter : Bool) (at : ℕ) (i j : Interface) (e : Endpoint)
    → decided two four short five shorter at i e ≡ Ok (descriptor.Interface j)
    → (two ≡ false) × (four ≡ true) × (short ≡ false) × (i ≡ j)
decided_interface true four short five shorter at i j e is = cc
decided_interface false true true five shorter at i j e is = cc
decided_interface false true false five shorter at i j e is = (refl, refl, refl, cc)
decided_interface false false short true true at i j e is = cc
decided_interface false false short true false at i j e is = cc
decided_interface false false short false shorter at i j e is = cc

-- an endpoint comes of type 5 and no less than 7 bytes
decided_endpoint : (two four short five shorter : Bool) (at : ℕ) (i : Interface) (e f : Endpoint)
    → decided two four short five shorter at i e ≡ Ok (descriptor.Endpoint f)
    → (two ≡ false) × (four ≡ false) × (five ≡ true) × (shorter ≡ false) × (e ≡ f)
decided_endpoint true four short five shorter at i e f is = cc
decided_endpoint false true true five shorter at i e f is = cc
decided_endpoint false true false five shorter at i e f is = cc
decided_endpoint false false short true true at i e f is = cc
decided_endpoint false false short true false at i e f is = (refl, refl, refl, refl, cc)
decided_endpoint false false short false shorter at i e f is = cc

-- what is passed over has none of the three types
decided_other : (two four short five shorter : Bool) (at : ℕ) (i : Interface) (e : Endpoint)
    → decided two four short five shorter at i e ≡ Ok descriptor.Other → (two ≡ false) × (four ≡ false) × (five ≡ false)
decided_other true four short five shorter at i e is = cc
decided_other false true true five shorter at i e is = cc
decided_other false true false five shorter at i e is = cc
decided_other false false short true true at i e is = cc
decided_other false false short true false at i e is = cc
decided_other false false short false shorter at i e is = (refl, refl, refl)

-- the tests of a piece whose descriptor is an interface
interface_tests : (p : Piece) (i : Interface) → descriptor_of p ≡ Ok (descriptor.Interface i)
    → ((type_of p == 2) ≡ false) × (is_interface p ≡ true) × (nat_lt (length p.bytes) 9 ≡ false) × (interface_at p ≡ i)
interface_tests p i is =
    decided_interface (type_of p == 2) (is_interface p) (nat_lt (length p.bytes) 9) (is_endpoint p) (nat_lt (length p.bytes) 7)
    p.at (interface_at p) i (endpoint_at p) is

-- those of a piece whose descriptor is an endpoint
endpoint_tests : (p : Piece) (e : Endpoint) → descriptor_of p ≡ Ok (descriptor.Endpoint e)
    → ((type_of p == 2) ≡ false) × (is_interface p ≡ false) × (is_endpoint p ≡ true)
    × (nat_lt (length p.bytes) 7 ≡ false) × (endpoint_at p ≡ e)
endpoint_tests p e is =
    decided_endpoint (type_of p == 2) (is_interface p) (nat_lt (length p.bytes) 9) (is_endpoint p) (nat_lt (length p.bytes) 7)
    p.at (interface_at p) (endpoint_at p) e is

-- those of a piece that is passed over
other_tests : (p : Piece) → descriptor_of p ≡ Ok descriptor.Other
    → ((type_of p == 2) ≡ false) × (is_interface p ≡ false) × (is_endpoint p ≡ false)
other_tests p is =
    decided_other (type_of p == 2) (is_interface p) (nat_lt (length p.bytes) 9) (is_endpoint p) (nat_lt (length p.bytes) 7)
    p.at (interface_at p) (endpoint_at p) is

-- under no interface is anything kept of what is no endpoint
kept_under-other : (near : Option (Option ℕ)) (p : Piece) → is_endpoint p ≡ false → kept_under near p ≡ []
kept_under-other None p isnt = refl
kept_under-other (Some None) p isnt = refl
kept_under-other (Some (Some i)) p isnt = rw isnt refl

-- so nothing is kept of it
kept-other : (before : List Piece) (p : Piece) → is_endpoint p ≡ false → kept before p ≡ []
kept-other before p isnt = kept_under-other (nearest before) p isnt

-- so it leaves the endpoints as they are
endpoints-other : (before : List Piece) (p : Piece) → is_endpoint p ≡ false → endpoints (before ++ p ∷ []) ≡ endpoints before
endpoints-other before p isnt =
    endpoints-push before p ∙ ap (λ xs. endpoints before ++ xs) (kept-other before p isnt) ∙ append-nil (endpoints before)

-- what isn't an interface is not used
used-other : (before : List Piece) (p : Piece) → is_interface p ≡ false → is_used before p ≡ false
used-other before p isnt = rw isnt refl

-- so it leaves the interfaces as they are
interfaces-other : (before : List Piece) (p : Piece) → is_interface p ≡ false → interfaces (before ++ p ∷ []) ≡ interfaces before
interfaces-other before p isnt =
    interfaces-push before p
    ∙ ap (λ b. interfaces before ++ cond b (interface_number p ∷ []) []) (used-other before p isnt)
    ∙ append-nil (interfaces before)

-- a descriptor that is passed over has no fault and changes nothing
pub step_other : (before : List Piece) (p : Piece) → descriptor_of p ≡ Ok descriptor.Other
    → StepsTo before p [] (interfaces before) (endpoints before) (nearest before)
step_other before p is =
    let tests = other_tests p is in
    record {
      faults = rw (tests.0, tests.1, tests.2) refl;
      interfaces = interfaces-other before p tests.1;
      endpoints = endpoints-other before p tests.2;
      section = nearest-other before p tests.1;
    }

-- an interface is a fault where it is used and there are 32
abbrev fault_where : Bool → List Piece → List DescFault
fault_where used before = cond (used && nat_le 32 (length (interfaces before))) (TooMany ∷ []) []

-- an interface adds its number where it is used
step_interface : (before : List Piece) (p : Piece) (i : Interface) (used : Bool) → descriptor_of p ≡ Ok (descriptor.Interface i)
    → is_new (interfaces before) i ≡ used
    → StepsTo before p (fault_where used before) (interfaces before ++ cond used (i.number ∷ []) []) (endpoints before) (Some (cond used (Some i.number) None))
step_interface before p i used is new =
    let tests = interface_tests p i is in
    let number = ap (λ j. j.number) tests.3 in
    let setting = ap (λ j. j.setting) tests.3 in
    let isnt : is_endpoint p ≡ false = ap (λ t. t == 5) (eqb-true (type_of p) 4 tests.1) in
    let same : is_used before p ≡ is_new (interfaces before) i = rw (tests.1, setting, numbers_used before (interface_number p), number) refl in
    let known = same ∙ new in
    record {
      faults =
          cond-false (type_of p == 2) _ _ tests.0
          ∙ cond-true (is_interface p) _ _ tests.1
          ∙ cond-false (nat_lt (length p.bytes) 9) _ _ tests.2
          ∙ ap (λ b. fault_where b before) known;
      interfaces = interfaces-push before p ∙ ap₂ (λ b n. interfaces before ++ cond b (n ∷ []) []) known number;
      endpoints = endpoints-other before p isnt;
      section = nearest-interface before p tests.1 ∙ ap₂ (λ b n. Some (cond b (Some n) None)) known number;
    }

-- one that isn't used adds nothing
pub step_unused : (before : List Piece) (p : Piece) (i : Interface) → descriptor_of p ≡ Ok (descriptor.Interface i)
    → is_new (interfaces before) i ≡ false → StepsTo before p [] (interfaces before) (endpoints before) (Some None)
step_unused before p i is unused =
    let step = step_interface before p i false is unused in
    record { faults = step.faults; interfaces = step.interfaces ∙ append-nil (interfaces before); endpoints = step.endpoints; section = step.section }

-- one that is used adds its number
pub step_used : (before : List Piece) (p : Piece) (i : Interface) → descriptor_of p ≡ Ok (descriptor.Interface i)
    → is_new (interfaces before) i ≡ true
    → StepsTo before p (cond (nat_le 32 (length (interfaces before))) (TooMany ∷ []) []) (interfaces before ++ i.number ∷ []) (endpoints before) (Some (Some i.number))
step_used before p i is used = step_interface before p i true is used

-- an endpoint as a configuration has it under an interface
abbrev pub info_in : ℕ → Endpoint → EndpointInfo
info_in interface e = record { address = e.address; interface = interface; kind = e.kind; packet_size = e.packet_size }

-- it is kept where its number isn't 0
abbrev pub kept_in : Option (Option ℕ) → Endpoint → List EndpointInfo
kept_in (Some (Some interface)) e = cond (not (e.address % 16 == 0)) (info_in interface e ∷ []) []
kept_in _ e = []

-- what is kept of a piece is told by its descriptor
kept_under-endpoint : (near : Option (Option ℕ)) (p : Piece) (e : Endpoint) → is_endpoint p ≡ true → endpoint_at p ≡ e
    → kept_under near p ≡ kept_in near e
kept_under-endpoint None p e is same = refl
kept_under-endpoint (Some None) p e is same = refl
kept_under-endpoint (Some (Some interface)) p e is same =
    let number : byte 2 p.bytes % 16 ≡ address_of p % 16 = omega arith in
    ap₂ (λ b n. cond (b && not (n == 0)) (info_in interface (endpoint_at p) ∷ []) []) is number
    ∙ ap (λ (x : Endpoint). cond (not (x.address % 16 == 0)) (info_in interface x ∷ []) []) same

-- before any interface an endpoint is a fault, and else its faults are those of what is kept
abbrev faults_under : Option (Option ℕ) → List Piece → Piece → List EndpointInfo → List DescFault
faults_under near before p xs = cond (is_none_before near) (WrongType p.at ∷ []) (faults_of_kept before xs)

-- an endpoint is kept by the nearest interface in front
step_endpoint : (before : List Piece) (p : Piece) (e : Endpoint) (near : Option (Option ℕ))
    → descriptor_of p ≡ Ok (descriptor.Endpoint e) → nearest before ≡ near
    → StepsTo before p (faults_under near before p (kept_in near e)) (interfaces before) (endpoints before ++ kept_in near e) near
step_endpoint before p e near is there =
    let tests = endpoint_tests p e is in
    let keeps : kept before p ≡ kept_in near e = ap (λ o. kept_under o p) there ∙ kept_under-endpoint near p e tests.2 tests.4 in
    record {
      faults =
          cond-false (type_of p == 2) _ _ tests.0
          ∙ cond-false (is_interface p) _ _ tests.1
          ∙ cond-true (is_endpoint p) _ _ tests.2
          ∙ cond-false (nat_lt (length p.bytes) 7) _ _ tests.3
          ∙ ap₂ (λ o xs. faults_under o before p xs) there keeps;
      interfaces = interfaces-other before p tests.1;
      endpoints = endpoints-push before p ∙ ap (λ xs. endpoints before ++ xs) keeps;
      section = nearest-other before p tests.1 ∙ there;
    }

-- where nothing is kept it is passed over
pub step_passed_over : (before : List Piece) (p : Piece) (e : Endpoint) (section : Option ℕ)
    → descriptor_of p ≡ Ok (descriptor.Endpoint e) → nearest before ≡ Some section → kept_in (Some section) e ≡ []
    → StepsTo before p [] (interfaces before) (endpoints before) (Some section)
step_passed_over before p e section is there none =
    let step = step_endpoint before p e (Some section) is there in
    record {
      faults = step.faults ∙ ap (faults_of_kept before) none;
      interfaces = step.interfaces;
      endpoints = step.endpoints ∙ ap (λ xs. endpoints before ++ xs) none ∙ append-nil (endpoints before);
      section = step.section;
    }

-- else it is added, and its faults are those beside the endpoints that are there
pub step_kept : (before : List Piece) (p : Piece) (e : Endpoint) (interface : ℕ) → descriptor_of p ≡ Ok (descriptor.Endpoint e)
    → nearest before ≡ Some (Some interface) → (e.address % 16 == 0) ≡ false
    → StepsTo before p (faults_beside (endpoints before) (info_in interface e)) (interfaces before) (endpoints before ++ info_in interface e ∷ []) (Some (Some interface))
step_kept before p e interface is there numbered =
    let step = step_endpoint before p e (Some (Some interface)) is there in
    let keeps = ap (λ b. cond (not b) (info_in interface e ∷ []) []) numbered in
    record {
      faults = step.faults ∙ ap (faults_of_kept before) keeps;
      interfaces = step.interfaces;
      endpoints = step.endpoints ∙ ap (λ xs. endpoints before ++ xs) keeps;
      section = step.section;
    }
