use Rattle.std.proofs.Common.{◌≡◌, [], ◌∷◌, ◌++◌, ◌≤◌, length, ap, arith, length-append}
use Rattle.std.proofs.lemmas.Int.{to_z-of_z}
use Rattle.std.proofs.lemmas.Result.{err_from_is_err_and}
use Rattle.std.specs.Int.{w32}
use Rattle.cdr_core.proofs.Appending.{begins, keeps_all, keeps_both, keeps_more}
use Rattle.cdr_core.specs.Private.{Keeps}
use Rattle.cdr_core.specs.Encapsulation.{byte_order}
use Rattle.cdr_core.specs.Writing.{Writing}
use Rattle.giop_core.specs.Written.{ft_octets}
use Rattle.giop_core.proofs.Retention.{ft_judged, ft_put}
use Rattle.giop_core.proofs.ft.put_ft.Goals as goal

pub returns-in_err-check_text : goal.returns-in_err-check_text
returns-in_err-check_text c =
    let a = c.args in
    let p = err_from_is_err_and c.from_residual.result c.from_residual.ensures.1 in
    rw (p.1, p.2) (ft_judged a.order a.client_id.now a.retention_id a.expiration a.out.now.items c.in_err-check_text.field-0.0 c.in_err-check_text.ensures)

pub returns-then-len-start-gt-LONGEST : goal.returns-then-len-start-gt-LONGEST
returns-then-len-start-gt-LONGEST c =
    let a = c.args in
    let old = a.out.now.items in
    let new = c.ulonglong.new.out in
    let all : new.items ≡ old ++ ft_octets a.order a.client_id.now a.retention_id a.expiration =
    ft_put a.order a.client_id.now a.retention_id a.expiration old c.in_ok-writer.writer c.encapsulated.new.out.items c.string.new.out.items c.long.new.out.items new.items c.in_ok-writer.ensures.0 c.in_ok-writer.ensures.1 c.in_ok-string.ensures (rw (to_z-of_z w32 a.retention_id c.ranges.retention_id) at c.in_ok-long.ensures) c.in_ok-ulonglong.ensures in (
      omega (arith, c.if-len-start-gt-LONGEST.true, c.len.ensures, c.len-start.ensures, new.ok.0, a.out.now.ok.0, ap length all, length-append old (ft_octets a.order a.client_id.now a.retention_id a.expiration)),
      record { more = ft_octets a.order a.client_id.now a.retention_id a.expiration; parts = all },
    )

pub returns : goal.returns
returns c =
    let a = c.args in
    let old = a.out.now.items in
    let new = c.ulonglong.new.out in
    let all : new.items ≡ old ++ ft_octets a.order a.client_id.now a.retention_id a.expiration =
    ft_put a.order a.client_id.now a.retention_id a.expiration old c.in_ok-writer.writer c.encapsulated.new.out.items c.string.new.out.items c.long.new.out.items new.items c.in_ok-writer.ensures.0 c.in_ok-writer.ensures.1 c.in_ok-string.ensures (rw (to_z-of_z w32 a.retention_id c.ranges.retention_id) at c.in_ok-long.ensures) c.in_ok-ulonglong.ensures in
    (omega (arith, c.if-len-start-gt-LONGEST.false, c.len.ensures, c.len-start.ensures, new.ok.0, a.out.now.ok.0, ap length all, length-append old (ft_octets a.order a.client_id.now a.retention_id a.expiration)), all)

pub returns-in_err-writer : goal.returns-in_err-writer
returns-in_err-writer c =
    let p = err_from_is_err_and c.from_residual-in_err-writer.result c.from_residual-in_err-writer.ensures.1 in
    rw (p.1, p.2) (keeps_all c.args.out.now.items c.encapsulated.new.out.items c.in_err-writer.ensures)

pub string-requires-clause-start : goal.string-requires-clause-start
string-requires-clause-start c = omega (arith, ap (λ (v : Writing). v.start) c.in_ok-writer.ensures.1)

pub string-requires-clause-long : goal.string-requires-clause-long
string-requires-clause-long c = c.in_ok-check_text.ensures.0

pub returns-in_err-string : goal.returns-in_err-string
returns-in_err-string c =
    let p = err_from_is_err_and c.from_residual-in_err-string.result c.from_residual-in_err-string.ensures.1 in
    let old = c.args.out.now.items in
    let begun = c.encapsulated.new.out.items in
    let first : Keeps old begun = record { more = byte_order c.args.order ∷ []; parts = c.in_ok-writer.ensures.0 } in
    rw (p.1, p.2) (keeps_both old begun c.string.new.out.items first (keeps_all begun c.string.new.out.items c.in_err-string.ensures))

pub long-requires : goal.long-requires
long-requires c =
    let w = c.in_ok-writer.writer in
    let begun = c.encapsulated.new.out.items in
    let le : w.start ≤ length begun = omega (arith, ap (λ (v : Writing). v.start) c.in_ok-writer.ensures.1) in
    begins w.start begun c.string.new.out.items le (record { more = _; parts = c.in_ok-string.ensures })

pub returns-in_err-long : goal.returns-in_err-long
returns-in_err-long c =
    let p = err_from_is_err_and c.from_residual-in_err-long.result c.from_residual-in_err-long.ensures.1 in
    let old = c.args.out.now.items in
    let begun = c.encapsulated.new.out.items in
    let first : Keeps old begun = record { more = byte_order c.args.order ∷ []; parts = c.in_ok-writer.ensures.0 } in
    let second = keeps_more old begun c.string.new.out.items _ first c.in_ok-string.ensures in
    rw (p.1, p.2) (keeps_both old c.string.new.out.items c.long.new.out.items second (keeps_all c.string.new.out.items c.long.new.out.items c.in_err-long.ensures))

pub ulonglong-requires : goal.ulonglong-requires
ulonglong-requires c =
    let w = c.in_ok-writer.writer in
    let begun = c.encapsulated.new.out.items in
    let le : w.start ≤ length begun = omega (arith, ap (λ (v : Writing). v.start) c.in_ok-writer.ensures.1) in
    let second = begins w.start begun c.string.new.out.items le (record { more = _; parts = c.in_ok-string.ensures }) in
    begins w.start c.string.new.out.items c.long.new.out.items second (record { more = _; parts = c.in_ok-long.ensures })

pub returns-in_err-ulonglong : goal.returns-in_err-ulonglong
returns-in_err-ulonglong c =
    let p = err_from_is_err_and c.from_residual-in_err-ulonglong.result c.from_residual-in_err-ulonglong.ensures.1 in
    let old = c.args.out.now.items in
    let begun = c.encapsulated.new.out.items in
    let first : Keeps old begun = record { more = byte_order c.args.order ∷ []; parts = c.in_ok-writer.ensures.0 } in
    let second = keeps_more old begun c.string.new.out.items _ first c.in_ok-string.ensures in
    let third = keeps_more old c.string.new.out.items c.long.new.out.items _ second c.in_ok-long.ensures in
    rw (p.1, p.2) (keeps_both old c.long.new.out.items c.ulonglong.new.out.items third (keeps_all c.long.new.out.items c.ulonglong.new.out.items c.in_err-ulonglong.ensures))

pub overflow_sub-len : goal.overflow_sub-len
overflow_sub-len c =
    let a = c.args in
    let old = a.out.now.items in
    let new = c.ulonglong.new.out in
    let all : new.items ≡ old ++ ft_octets a.order a.client_id.now a.retention_id a.expiration =
    ft_put a.order a.client_id.now a.retention_id a.expiration old c.in_ok-writer.writer c.encapsulated.new.out.items c.string.new.out.items c.long.new.out.items new.items c.in_ok-writer.ensures.0 c.in_ok-writer.ensures.1 c.in_ok-string.ensures (rw (to_z-of_z w32 a.retention_id c.ranges.retention_id) at c.in_ok-long.ensures) c.in_ok-ulonglong.ensures in
    omega (arith, c.len.ensures, c.len-start.ensures, new.ok.0, a.out.now.ok.0, ap length all, length-append old (ft_octets a.order a.client_id.now a.retention_id a.expiration))
