-- The cut law: what the transfers of an endpoint moved is a cut of its device's answers, in order of submission.
use Rattle.std.specs.Prelude.{◌≡◌, ℕ, ◌<◌, ◌==◌, nat_eq, Bool, true, false, not, ◌||◌, ◌⊎◌, List, [], ◌∷◌, ◌++◌, map, IsTrue, Option, Some, None}
use Rattle.std.specs.Bool.{MatchBool}
use Rattle.std.specs.Option.{unwrap_or}
use Rattle.std.specs.List.{AllByRecursion, IsDistinct, filter, flat_map, list_all, list_any, count_by}
use Rattle.usb_model.specs.declared.response.Response.{Response}
use Rattle.usb_model.specs.declared.response.Response.TheVariants as response
use Rattle.usb_model.specs.declared.request.Body.{Body}
use Rattle.usb_model.specs.declared.request.Body.TheVariants.{In, Out}
use Rattle.usb_model.specs.declared.request.Request.{Request}
use Rattle.usb_model.specs.declared.step.Step.{Step}
use Rattle.usb_model.specs.declared.endpoint.Endpoint.{Endpoint}
use Rattle.usb_model.specs.declared.item.Ask.{Ask}
use Rattle.usb_model.specs.declared.result.TransferResult.{TransferResult}
use Rattle.usb_model.specs.Setup.{Setup, is_in, packet_size_of, script_of}
use Rattle.usb_model.specs.Requests.{is_short_not_ok, length_of}
use Rattle.usb_model.specs.Endpoint.Packets.{Outcome, outcome, open_with, count_of, IsOpenAt, Ends}
use Rattle.usb_model.specs.Endpoint.Status.{told_status}
use Rattle.usb_model.specs.Endpoint.{bytes_read, live_numbers}
use Rattle.usb_model.specs.Direction.{is_of_direction}
use Rattle.usb_model.specs.World.{new_world, world_from}
use Rattle.usb_model.specs.Laws.Account.{Accepted, Transfer, Clearing, Asked, End, Made, Account, account}

-- what came of a transfer
pub data Fate : Type 0 where
  Waits : Fate
  Ended : (code : ℕ) (gone : Bool) → Fate  -- at its device; gone: whether that was gone by then
  Withdrawn : (ask : Ask) → Fate

-- a transfer with its share of the script
pub record Part : Type 0 where
  pub n : ℕ
  pub request : Request
  pub round : ℕ
  pub share : List Response
  pub fate : Fate

-- what was accepted, each transfer with its share
pub data Cell : Type 0 where
  Of : (part : Part) → Cell
  Cleared : Cell

abbrev pub accepted_as : Cell → Accepted
accepted_as (Of x) = Transfer x.n x.request x.round
accepted_as Cleared = Clearing

abbrev pub parts_of : Cell → List Part
parts_of (Of x) = x ∷ []
parts_of Cleared = []

abbrev pub is_stall : Response → Bool
is_stall response.Stall = true
is_stall _ = false

abbrev pub has_stall : List Response → Bool
has_stall share = list_any is_stall share

-- the share leaves the transfer open, at a device that isn't halted; behind a stall it is empty
abbrev pub IsOpen : ℕ → Bool → Part → Type 0
IsOpen size behind x = MatchBool behind (x.share ≡ []) (IsOpenAt (outcome x.request size x.share false))

-- the share fits what came of the transfer; behind: whether a stall stands before it, and no clearing since
abbrev pub FitsFate : ℕ → Bool → Part → Fate → Type 0
FitsFate size behind x (Ended code false) = MatchBool behind ((x.share ≡ []) × (code ≡ 6)) (Ends x.request size x.share code)
FitsFate size behind x (Ended code true) = (code ≡ 4) × IsOpen size behind x
FitsFate size behind x Waits = IsOpen size behind x
FitsFate size behind x (Withdrawn ask) = IsOpen size behind x

abbrev pub AllFit : ℕ → Bool → List Cell → Type 0
AllFit size behind [] = Unit {0}
AllFit size behind (Of x ∷ xs) = FitsFate size behind x x.fate × AllFit size (behind || has_stall x.share) xs
AllFit size behind (Cleared ∷ xs) = AllFit size false xs

-- those that ended at the device
abbrev pub endpoint_of : ℕ → Fate → List End
endpoint_of n (Ended code gone) = record { n = n; code = code; gone = gone } ∷ []
endpoint_of n _ = []

-- the packets that the device took of a transfer
abbrev pub packets_taken_by : ℕ → Part → Body → List (List ℕ)
packets_taken_by size x (In n) = []
packets_taken_by size x (Out bytes) = (unwrap_or (outcome x.request size x.share false) (open_with [])).packets

abbrev pub packets_taken : ℕ → Part → List (List ℕ)
packets_taken size x = packets_taken_by size x x.request.body

-- the result of a transfer with this share: its number, its request and its round, and what the share moved
abbrev pub told : ℕ → Bool → ℕ → Option Ask → Part → TransferResult
told size gone code ask x =
    let moved : Outcome = unwrap_or (outcome x.request size x.share false) (open_with []) in
    record {
      n = x.n;
      request = x.request;
      round = x.round;
      status = told_status gone code ask (is_short_not_ok x.request) (length_of x.request.body) (count_of moved);
      actual = count_of moved;
      bytes = bytes_read x.request.body moved;
    }

-- how often it stands in the list
abbrev pub times : ℕ → List ℕ → ℕ
times n xs = count_by (λ k. k == n) xs

-- the results of the transfer of this number
abbrev pub made_of : ℕ → List Made → List Made
made_of n xs = filter (λ x. x.result.n == n) xs

abbrev pub asks_of : ℕ → List Asked → List Asked
asks_of n xs = filter (λ x. x.n == n) xs

-- the results of a transfer are those that its share and its fate tell: none while it is in progress, and then just one;
-- what ended at a gone device is told as of a gone device, and what was withdrawn tells the one ask that was accepted
abbrev pub ToldBy : ℕ → Account → ℕ → Part → Fate → Type 0
ToldBy size a live x Waits = (live ≡ 1) × (made_of x.n a.made ≡ [])
ToldBy size a live x (Ended code gone) =
    ((live ≡ 1) × (made_of x.n a.made ≡ []))
    ⊎ ((live ≡ 0) × (later : Bool) × (gone ≡ true → later ≡ true) × (made_of x.n a.made ≡ record { result = told size later code None x; gone = later } ∷ []))
ToldBy size a live x (Withdrawn ask) =
    (live ≡ 0) × (later : Bool)
    × (made_of x.n a.made ≡ record { result = told size false 26 (Some ask) x; gone = later } ∷ [])
    × (asks_of x.n a.asked ≡ record { n = x.n; ask = ask } ∷ [])

abbrev pub AllTold : ℕ → Account → List ℕ → List Part → Type 0
AllTold size a live [] = Unit {0}
AllTold size a live (x ∷ xs) = ToldBy size a (times x.n live) x x.fate × AllTold size a live xs

-- the numbers of the transfers among the cells
abbrev pub numbers_of : List Cell → List ℕ
numbers_of cells = map (λ x. x.n) (flat_map parts_of cells)

-- the cut law at one endpoint: there is one share for each transfer that was accepted, so that all this holds;
-- and no result, and no ask, is of any other transfer
pub record IsCut (size : ℕ) (script : List Response) (a : Account) (e : Endpoint) : Type 0 where
  pub cells : List Cell
  pub all : map accepted_as cells ≡ a.accepted
  pub numbers : IsDistinct nat_eq (numbers_of cells)
  pub shares : flat_map (λ x. x.share) (flat_map parts_of cells) ++ e.script_left ≡ script
  pub fits : AllFit size false cells
  pub ended : flat_map (λ x. endpoint_of x.n x.fate) (flat_map parts_of cells) ≡ a.ended
  pub told : AllTold size a (live_numbers e.line) (flat_map parts_of cells)
  pub results : AllByRecursion (λ x. 0 < times x.result.n (numbers_of cells)) a.made
  pub asks : AllByRecursion (λ x. 0 < times x.n (numbers_of cells)) a.asked
  pub packets : flat_map (packets_taken size) (flat_map parts_of cells) ≡ e.packets_received

abbrev pub is_empty_packet : Response → Bool
is_empty_packet (response.Data []) = true
is_empty_packet _ = false

-- a packet size of at least 1, or answers without an empty packet: with one a read at size 0 has no outcome
abbrev pub HasSize : ℕ → List Response → Type 0
HasSize size answers = (0 < size) ⊎ IsTrue (list_all (λ x. not (is_empty_packet x)) answers)

-- where a run ends, it holds at each endpoint with a packet size, or without empty packets, and with answers of its direction
abbrev pub CutsAt : Setup → List Step → ℕ → ℕ → Type 0
CutsAt setup steps d e =
    HasSize (packet_size_of setup d e) (script_of setup d e)
    → IsTrue (list_all (is_of_direction (is_in e)) (script_of setup d e))
    → IsCut (packet_size_of setup d e) (script_of setup d e) (account setup d e steps) ((world_from setup (new_world setup) steps).endpoints d e)
