-- The text written is that of what was read, and so of the whole input. Assumes nothing.
use Rattle.std.proofs.Common.{◌≡◌, Ok, arith, rules, subst}
use Rattle.std.proofs.lemmas.Result.{IfOk-at_ok}
use Rattle.std.specs.Io.KnownBytes.{Appends}
use Rattle.listing.proofs.RunLaws.{listed_input, mapped}
use Rattle.listing.proofs.run.Goals as goal

pub returns-clause-listed : goal.returns-clause-listed
returns-clause-listed g c =
    let got : c.read_input.result ≡ Ok c.in_ok-n.n = grind arith in
    let within = IfOk-at_ok _ got c.read_input.ensures.within in
    let bytes = IfOk-at_ok _ got c.read_input.ensures.bytes in
    let end = IfOk-at_ok _ got c.read_input.ensures.end in
    let whole = listed_input _ _ _ _ c.read_input.new.buf c.in_ok-n.n (search rules) within.0 bytes end in
    mapped c.write_all.result c.map_err-2.result c.map_err-2.ensures.variant
    (λ a. whole (subst (Appends _ _) c.list-end.ensures.text a)) c.write_all.ensures.bytes
