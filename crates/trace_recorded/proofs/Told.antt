-- An open share and one answer more that ends it: what its callback is told.
use Rattle.std.proofs.Common.{◌≡◌, ℕ, ◌≤◌, Bool, true, false, ◌&&◌, List, [], ◌∷◌, ◌++◌, Some, None, refl, ap, sym, ◌∙◌, subst, arith}
use Rattle.std.specs.Prelude.{nat_lt}
use Rattle.std.proofs.lemmas.Bool.{le-ltb}
use Rattle.usb_model.specs.declared.response.Response.{Response}
use Rattle.usb_model.specs.declared.request.Request.{Request}
use Rattle.usb_model.specs.declared.outcome.Outcome.{Outcome}
use Rattle.usb_model.specs.Requests.{is_short_not_ok}
use Rattle.usb_model.specs.Endpoint.{bytes_read}
use Rattle.usb_model.specs.Endpoint.Packets.{Ends, count_of, outcome}
use Rattle.usb_model.specs.Endpoint.Status.{status_of, told_status}
use Rattle.proof_model.proofs.Shares.Cuts.{ends_now}
use Rattle.proof_model.proofs.Shares.OpenShares.{open_if}
use Rattle.trace_capture.specs.declared.errno.Errno.{Errno}
use Rattle.trace_capture.specs.declared.errno.Errno.TheVariants.{Success, Pipe, Protocol, Overflow, RemoteIo}
use Rattle.trace_capture.specs.Transfer.{errno_of}
use Rattle.trace_recorded.specs.declared.transfer.RecordedTransfer.{RecordedTransfer}
use Rattle.trace_recorded.specs.Answers.{answers_of}
use Rattle.trace_recorded.specs.Laws.{IsToldAgain}

-- what is recorded of a callback that was told by this code
abbrev pub recorded : ℕ → Bool → ℕ → ℕ → Errno
recorded code strict asked actual = errno_of (told_status false code None strict asked actual) (Some code)

pub of_stall : (strict : Bool) (asked actual : ℕ) → recorded 6 strict asked actual ≡ Pipe
unfolding told_status status_of
of_stall strict asked actual = refl

pub of_failure : (strict : Bool) (asked actual : ℕ) → recorded 4 strict asked actual ≡ Protocol
unfolding told_status status_of
of_failure strict asked actual = refl

pub of_babble : (strict : Bool) (asked actual : ℕ) → recorded 3 strict asked actual ≡ Overflow
unfolding told_status status_of
of_babble strict asked actual = refl

-- all moved, or fewer bytes where that is no error
pub of_success : (strict : Bool) (asked actual : ℕ) → strict && nat_lt actual asked ≡ false → recorded 1 strict asked actual ≡ Success
unfolding told_status status_of
of_success strict asked actual e = rw e refl

pub of_short : (strict : Bool) (asked actual : ℕ) → strict && nat_lt actual asked ≡ false → recorded 13 strict asked actual ≡ Success
unfolding told_status status_of
of_short strict asked actual e = rw e refl

pub of_too_short : (strict : Bool) (asked actual : ℕ) → strict && nat_lt actual asked ≡ true → recorded 13 strict asked actual ≡ RemoteIo
unfolding told_status status_of
of_too_short strict asked actual e = rw e refl

-- no error, since all moved
pub all_moved : (strict : Bool) (asked actual : ℕ) → asked ≤ actual → strict && nat_lt actual asked ≡ false
all_moved true asked actual e = le-ltb actual asked e
all_moved false asked actual e = refl

-- the answers are an open share and this answer
pub told : (request : Request) (size : ℕ) (x : RecordedTransfer) (errno : Errno) (bytes : List ℕ) (share : List Response) (y : Response) (before end : Outcome) (code : ℕ)
    → answers_of size x ≡ share ++ y ∷ []
    → outcome request size share false ≡ Some before → before.code ≡ None
    → outcome request size (share ++ y ∷ []) false ≡ Some end → end.code ≡ Some code
    → bytes_read request.body end ≡ bytes → count_of end ≡ x.moved
    → recorded code (is_short_not_ok request) x.asked x.moved ≡ errno
    → IsToldAgain request size x errno bytes
told request size x errno bytes share y before end code same op none comes ended read moved status = record {
  code = code;
  end = end;
  comes = ap (λ l. outcome request size l false) same ∙ comes;
  ends = subst (λ l. Ends request size l code) (sym same) (ends_now request size share (y ∷ []) end code (omega arith) (open_if (outcome request size share false) before op none) comes ended);
  read = read;
  moved = moved;
  status = ap (recorded code (is_short_not_ok request) x.asked) moved ∙ status;
}
