-- The files that were found, or none.
use Rattle.std.proofs.Common.{◌≡◌, ◌∙◌, ◌==◌, false, List, length, ap, subst, sym}
use Rattle.std.specs.Prelude.{string_bytes}
use Rattle.trace_suite.specs.Tests.{CountsFiles}
use Rattle.trace_suite.specs.Tests as T
use Rattle.trace_suite.proofs.Counting.{further, of_folder}
use Rattle.trace_suite.proofs.testing.Testing.test_folder.Goals as goal

pub returns : goal.returns
returns g c =
    let same : length c.in-Ok.files.items ≡ c.in-Ok.files.len = cc in
    let some : (length c.in-Ok.files.items == 0) ≡ false = ap (λ n. n == 0) same ∙ sym c.is_empty.ensures ∙ c.if-is_empty.false in
    further c.test_files.result
    (λ counted none. of_folder string_bytes c.in-Ok.files.items c.args.self.now.counting c.test_files.new.self.counting some
    (subst (λ (files : List _). CountsFiles files c.args.self.now.counting c.test_files.new.self.counting) c.as_slice.ensures.value (counted none)))
    c.test_files.ensures

pub returns-in_default : goal.returns-in_default
returns-in_default g c = further c.refuse.result (λ is none. T.CountsFolder.unfound is) c.refuse.ensures

pub returns-then-is_empty : goal.returns-then-is_empty
returns-then-is_empty g c = further c.refuse-then-is_empty.result (λ is none. T.CountsFolder.unfound is) c.refuse-then-is_empty.ensures
