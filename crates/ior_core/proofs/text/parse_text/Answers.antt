use Rattle.std.proofs.lemmas.Result.{err_from_is_err_and}
use Rattle.ior_core.specs.View.{ior_value}
use Rattle.ior_core.proofs.Texts.{digits_end, order_fails, reference_ends, reference_is}
use Rattle.ior_core.proofs.text.parse_text.Goals as goal

pub returns-in_err-octets : goal.returns-in_err-octets
returns-in_err-octets c =
    let p = err_from_is_err_and c.from_residual.result c.from_residual.ensures.1 in
    rw (p.1, p.2) (digits_end c.args.text.now c.in_err-octets.field-0.0 c.in_err-octets.ensures)

pub returns-in_err-cursor : goal.returns-in_err-cursor
returns-in_err-cursor c =
    let p = err_from_is_err_and c.from_residual-in_err-cursor.result c.from_residual-in_err-cursor.ensures.1 in
    let octets = c.in_ok-octets.octets.items in
    rw (p.1, p.2) (octets, c.in_ok-octets.ensures, order_fails octets c.in_err-cursor.field-0.0 (rw (c.deref.ensures.value) at c.in_err-cursor.ensures))

pub returns-in_err-read : goal.returns-in_err-read
returns-in_err-read c =
    let p = err_from_is_err_and c.from_residual-in_err-read.result c.from_residual-in_err-read.ensures.1 in
    let start = c.in_ok-cursor.cursor in
    let ordered = rw (c.deref.ensures.value) at c.in_ok-cursor.ensures in
    rw (p.1, p.2) (reference_ends c.in_ok-octets.octets.items start.order start.place start.rest ordered c.args.text.now c.in_ok-octets.ensures c.in_err-read.field-0.0 c.in_err-read.ensures.0)

pub returns : goal.returns
returns c =
    let octets = c.in_ok-octets.octets.items in
    let start = c.in_ok-cursor.cursor in
    let new = c.read.new.cursor in
    let ordered = rw (c.deref.ensures.value) at c.in_ok-cursor.ensures in
    (octets, c.in_ok-octets.ensures, reference_is octets start.order start.place start.rest ordered (ior_value c.in_ok-read.field-0) new.place new.rest c.in_ok-read.ensures.0)
