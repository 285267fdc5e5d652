use Rattle.std.proofs.Common.{◌≡◌, ◌+◌, ◌<◌, ◌≤◌, [], ◌∷◌, ◌++◌, List, ℕ, None, Some, inl, length, ap, refl, sym, subst, ◌∙◌, arith, length-append}
use Rattle.std.proofs.lemmas.List.{append-nil}
use Rattle.ft_orb.specs.declared.wire.StreamEnd.TheVariants.{LinkClosed, PeerEnded, ReadFault, WriteFault}
use Rattle.ft_orb.specs.Handovers.{octets_in}
use Rattle.ft_orb.specs.Parking.{goes_on}
use Rattle.ft_orb.specs.Sessions.{ServesRead, TookAll, TookFront}
use Rattle.ft_orb.specs.Wires.{Gave, GaveNone, ReadFailed}
use Rattle.ft_orb.proofs.Causes.{read-closed, read-cut, read-ended, read-faulty, read-on, read-unanswered}
use Rattle.ft_orb.proofs.Elsewhere.{ended-off, late-none, late-so, read-all, read-by, read-front}
use Rattle.ft_orb.proofs.Handing.{attends-none, attends-so}
use Rattle.ft_orb.proofs.Streams.{on_err-is, on_ok-is, visit-closed, visit-left, visit-on, visit-peer, visit-read, visit-write, was_none, was_read}
use Rattle.ft_orb.proofs.hosting.serve_piece.Goals as goal

pub returns-in-Ok-eq0-clause-table : goal.returns-in-Ok-eq0-clause-table
returns-in-Ok-eq0-clause-table g c =
    attends-none g.H.Host.as_owner _ (λ w calls past x. visit-peer (g.H.Host.as_owner w) (g.H.Host.says w) past c.args.connection _ _ (g.H.Host.Holds w calls c.args.host.now) _ x.0 x.1 (was_none _ _ c.read.new.buffer c.in-Ok-eq0.field-0 c.in-Ok-eq0.field-0-test c.in-Ok-eq0.ensures.traffic))

pub returns-in-Err-clause-table : goal.returns-in-Err-clause-table
returns-in-Err-clause-table g c =
    attends-none g.H.Host.as_owner _ (λ w calls past x. visit-read (g.H.Host.as_owner w) (g.H.Host.says w) past c.args.connection _ _ (g.H.Host.Holds w calls c.args.host.now) _ x.0 x.1 c.in-Err.ensures.traffic)

pub returns-in-Err-feed_whole-clause-table : goal.returns-in-Err-feed_whole-clause-table
returns-in-Err-feed_whole-clause-table g c =
    let some : 0 < c.in-Ok.n = let h = c.in-Ok.n-test in omega (arith, h) in
    let small : length c.split_at.result.0.now ≤ 4096 = let l = c.split_at.ensures.front_len in let n = c.in-Ok.ensures.count in let r = c.requires.small in omega (arith, l, n, r) in
    let read = was_read (g.W.Wire.traffic c.args.wire.now) (g.W.Wire.traffic c.read.new.self) c.read.new.buffer c.split_at.result.0.now c.in-Ok.n c.split_at.ensures.front some c.in-Ok.ensures.traffic in
    attends-so g.H.Host.as_owner c.in-Err-feed_whole.ensures.table (λ w calls later past x y.
    visit-left (g.H.Host.as_owner w) (g.H.Host.says w) past c.args.connection (g.W.Wire.traffic c.args.wire.now) (g.C.Clock.given c.args.clock.now) c.now-moment.result c.split_at.result.0.now c.clear.new.self.items c.feed_whole.new.out.items (g.W.Wire.traffic c.read.new.self) (g.C.Clock.given c.now-moment.new.self)
    (g.H.Host.Holds w later c.feed_whole.new.self) x.1 read c.now-moment.ensures small y.0 y.2 c.in-Err-feed_whole.end y.1)

pub returns-then-is_err-clause-table : goal.returns-then-is_err-clause-table
returns-then-is_err-clause-table g c =
    let some : 0 < c.in-Ok.n = let h = c.in-Ok.n-test in omega (arith, h) in
    let small : length c.split_at.result.0.now ≤ 4096 = let l = c.split_at.ensures.front_len in let n = c.in-Ok.ensures.count in let r = c.requires.small in omega (arith, l, n, r) in
    let read = was_read (g.W.Wire.traffic c.args.wire.now) (g.W.Wire.traffic c.read.new.self) c.read.new.buffer c.split_at.result.0.now c.in-Ok.n c.split_at.ensures.front some c.in-Ok.ensures.traffic in
    let sent = on_err-is c.write_all.result (sym c.is_err.ensures.value ∙ c.if-is_err.true) c.write_all.ensures.err in
    attends-so g.H.Host.as_owner c.in_default.ensures.table (λ w calls later past x y.
    let is : c.deref.result.now ≡ y.2.0 = c.deref.ensures.value ∙ y.2.1 ∙ ap (λ (xs : List ℕ). xs ++ y.2.0) c.clear.ensures.items in
    visit-write (g.H.Host.as_owner w) (g.H.Host.says w) past c.args.connection (g.W.Wire.traffic c.args.wire.now) (g.C.Clock.given c.args.clock.now) c.now-moment.result c.split_at.result.0.now c.clear.new.self.items c.feed_whole.new.out.items (g.W.Wire.traffic c.read.new.self) (g.C.Clock.given c.now-moment.new.self)
    (g.H.Host.Holds w later c.feed_whole.new.self) x.1 read c.now-moment.ensures small y.0 y.2 (g.W.Wire.traffic c.write_all.new.wire) y.1 (subst (λ (xs : List ℕ). TookFront xs (g.W.Wire.traffic c.read.new.self) (g.W.Wire.traffic c.write_all.new.wire)) is sent))

pub returns-then-has_ended-clause-table : goal.returns-then-has_ended-clause-table
returns-then-has_ended-clause-table g c =
    let some : 0 < c.in-Ok.n = let h = c.in-Ok.n-test in omega (arith, h) in
    let small : length c.split_at.result.0.now ≤ 4096 = let l = c.split_at.ensures.front_len in let n = c.in-Ok.ensures.count in let r = c.requires.small in omega (arith, l, n, r) in
    let read = was_read (g.W.Wire.traffic c.args.wire.now) (g.W.Wire.traffic c.read.new.self) c.read.new.buffer c.split_at.result.0.now c.in-Ok.n c.split_at.ensures.front some c.in-Ok.ensures.traffic in
    let sent = on_ok-is c.write_all.result (sym c.is_err.ensures.value ∙ c.if-is_err.false) c.write_all.ensures.ok in
    attends-so g.H.Host.as_owner c.in_default.ensures.table (λ w calls later past x y.
    let is : c.deref.result.now ≡ y.2.0 = c.deref.ensures.value ∙ y.2.1 ∙ ap (λ (xs : List ℕ). xs ++ y.2.0) c.clear.ensures.items in
    visit-closed (g.H.Host.as_owner w) (g.H.Host.says w) past c.args.connection (g.W.Wire.traffic c.args.wire.now) (g.C.Clock.given c.args.clock.now) c.now-moment.result c.split_at.result.0.now c.clear.new.self.items c.feed_whole.new.out.items (g.W.Wire.traffic c.read.new.self) (g.C.Clock.given c.now-moment.new.self)
    (g.H.Host.Holds w later c.feed_whole.new.self) x.1 read c.now-moment.ensures small y.0 y.2 (g.W.Wire.traffic c.write_all.new.wire) y.1 (subst (λ (xs : List ℕ). TookAll xs (g.W.Wire.traffic c.read.new.self) (g.W.Wire.traffic c.write_all.new.wire)) is sent)
    c.has_ended.result (c.has_ended.ensures.table w later) c.if-has_ended.true)

pub returns-clause-table : goal.returns-clause-table
returns-clause-table g c =
    let some : 0 < c.in-Ok.n = let h = c.in-Ok.n-test in omega (arith, h) in
    let small : length c.split_at.result.0.now ≤ 4096 = let l = c.split_at.ensures.front_len in let n = c.in-Ok.ensures.count in let r = c.requires.small in omega (arith, l, n, r) in
    let read = was_read (g.W.Wire.traffic c.args.wire.now) (g.W.Wire.traffic c.read.new.self) c.read.new.buffer c.split_at.result.0.now c.in-Ok.n c.split_at.ensures.front some c.in-Ok.ensures.traffic in
    let sent = on_ok-is c.write_all.result (sym c.is_err.ensures.value ∙ c.if-is_err.false) c.write_all.ensures.ok in
    attends-so g.H.Host.as_owner c.in_default.ensures.table (λ w calls later past x y.
    let is : c.deref.result.now ≡ y.2.0 = c.deref.ensures.value ∙ y.2.1 ∙ ap (λ (xs : List ℕ). xs ++ y.2.0) c.clear.ensures.items in
    visit-on (g.H.Host.as_owner w) (g.H.Host.says w) past c.args.connection (g.W.Wire.traffic c.args.wire.now) (g.C.Clock.given c.args.clock.now) c.now-moment.result c.split_at.result.0.now c.clear.new.self.items c.feed_whole.new.out.items (g.W.Wire.traffic c.read.new.self) (g.C.Clock.given c.now-moment.new.self)
    (g.H.Host.Holds w later c.feed_whole.new.self) x.1 read c.now-moment.ensures small y.0 y.2 (g.W.Wire.traffic c.write_all.new.wire) y.1 (subst (λ (xs : List ℕ). TookAll xs (g.W.Wire.traffic c.read.new.self) (g.W.Wire.traffic c.write_all.new.wire)) is sent)
    c.has_ended.result (c.has_ended.ensures.table w later) c.if-has_ended.false)

pub returns-in-Ok-eq0-clause-late : goal.returns-in-Ok-eq0-clause-late
returns-in-Ok-eq0-clause-late g c =
    late-none g.H.Host.HoldsLate c.args.connection _ (λ limits past. (tt, read-by (Some PeerEnded) [] [] (λ apart. refl, omega arith) (GaveNone ∷ []) _ _ (was_none _ _ c.read.new.buffer c.in-Ok-eq0.field-0 c.in-Ok-eq0.field-0-test c.in-Ok-eq0.ensures.traffic) refl)) _ c.args.host.now

pub returns-in-Err-clause-late : goal.returns-in-Err-clause-late
returns-in-Err-clause-late g c = late-none g.H.Host.HoldsLate c.args.connection _ (λ limits past. (tt, read-by (Some ReadFault) [] [] (λ apart. refl, omega arith) (ReadFailed ∷ []) _ _ c.in-Err.ensures.traffic refl)) _ c.args.host.now

pub returns-in-Err-feed_whole-clause-late : goal.returns-in-Err-feed_whole-clause-late
returns-in-Err-feed_whole-clause-late g c =
    let some : 0 < c.in-Ok.n = let h = c.in-Ok.n-test in omega (arith, h) in
    let read = was_read (g.W.Wire.traffic c.args.wire.now) (g.W.Wire.traffic c.read.new.self) c.read.new.buffer c.split_at.result.0.now c.in-Ok.n c.split_at.ensures.front some c.in-Ok.ensures.traffic in
    late-so g.H.Host.HoldsLate c.args.connection _ _ _ _ c.args.host.now c.feed_whole.new.self (λ s held calls past events those stay x.
    let small : length c.split_at.result.0.now ≤ 4096 = let l = c.split_at.ensures.front_len in let n = c.in-Ok.ensures.count in let r = c.requires.small in omega (arith, l, n, r) in
    let size : length c.split_at.result.0.now ≡ length (octets_in events) + length x.1 = ap (λ (l : List ℕ). length l) x.2 ∙ length-append (octets_in events) x.1 in
    (x.0, read-by (Some c.in-Err-feed_whole.end) (octets_in events) x.1 (x.3, omega (arith, small, size)) (Gave c.split_at.result.0.now ∷ []) _ _ read (append-nil c.split_at.result.0.now ∙ x.2))) c.in-Err-feed_whole.ensures.late

pub returns-then-is_err-clause-late : goal.returns-then-is_err-clause-late
returns-then-is_err-clause-late g c =
    let some : 0 < c.in-Ok.n = let h = c.in-Ok.n-test in omega (arith, h) in
    let read = was_read (g.W.Wire.traffic c.args.wire.now) (g.W.Wire.traffic c.read.new.self) c.read.new.buffer c.split_at.result.0.now c.in-Ok.n c.split_at.ensures.front some c.in-Ok.ensures.traffic in
    let sent = on_err-is c.write_all.result (sym c.is_err.ensures.value ∙ c.if-is_err.true) c.write_all.ensures.err in
    late-so g.H.Host.HoldsLate c.args.connection _ _ _ _ c.args.host.now c.feed_whole.new.self
    (λ s held calls past events those stay x. (inl x.0, subst (λ (l : List ℕ). ServesRead (Some WriteFault) l (g.W.Wire.traffic c.args.wire.now) (g.W.Wire.traffic c.write_all.new.wire)) (sym x.1) (read-front (Some WriteFault) c.split_at.result.0.now (λ apart. refl, omega arith) _ _ _ _ read sent))) c.in_default.ensures.late

pub returns-then-has_ended-clause-late : goal.returns-then-has_ended-clause-late
returns-then-has_ended-clause-late g c =
    let some : 0 < c.in-Ok.n = let h = c.in-Ok.n-test in omega (arith, h) in
    let read = was_read (g.W.Wire.traffic c.args.wire.now) (g.W.Wire.traffic c.read.new.self) c.read.new.buffer c.split_at.result.0.now c.in-Ok.n c.split_at.ensures.front some c.in-Ok.ensures.traffic in
    let sent = on_ok-is c.write_all.result (sym c.is_err.ensures.value ∙ c.if-is_err.false) c.write_all.ensures.ok in
    late-so g.H.Host.HoldsLate c.args.connection _ _ _ _ c.args.host.now c.feed_whole.new.self
    (λ s held calls past events those stay x. (
      (x.0, ended-off (goes_on s.limits (events ++ past) c.args.connection) c.has_ended.result (c.has_ended.ensures.late s held calls (events ++ past) those stay) c.if-has_ended.true),
      subst (λ (l : List ℕ). ServesRead (Some LinkClosed) l (g.W.Wire.traffic c.args.wire.now) (g.W.Wire.traffic c.write_all.new.wire)) (sym x.1) (read-all (Some LinkClosed) c.split_at.result.0.now (λ apart. refl, omega arith) _ _ _ _ read sent),
    )) c.in_default.ensures.late

pub returns-clause-late : goal.returns-clause-late
returns-clause-late g c =
    let some : 0 < c.in-Ok.n = let h = c.in-Ok.n-test in omega (arith, h) in
    let read = was_read (g.W.Wire.traffic c.args.wire.now) (g.W.Wire.traffic c.read.new.self) c.read.new.buffer c.split_at.result.0.now c.in-Ok.n c.split_at.ensures.front some c.in-Ok.ensures.traffic in
    let sent = on_ok-is c.write_all.result (sym c.is_err.ensures.value ∙ c.if-is_err.false) c.write_all.ensures.ok in
    late-so g.H.Host.HoldsLate c.args.connection _ _ _ _ c.args.host.now c.feed_whole.new.self
    (λ s held calls past events those stay x. (x.0, subst (λ (l : List ℕ). ServesRead None l (g.W.Wire.traffic c.args.wire.now) (g.W.Wire.traffic c.write_all.new.wire)) (sym x.1) (read-all None c.split_at.result.0.now refl _ _ _ _ read sent))) c.in_default.ensures.late

pub returns-in-Ok-eq0-clause-cause : goal.returns-in-Ok-eq0-clause-cause
returns-in-Ok-eq0-clause-cause g c = read-ended _ _ (was_none _ _ c.read.new.buffer c.in-Ok-eq0.field-0 c.in-Ok-eq0.field-0-test c.in-Ok-eq0.ensures.traffic)

pub returns-in-Err-clause-cause : goal.returns-in-Err-clause-cause
returns-in-Err-clause-cause g c = read-faulty _ _ c.in-Err.ensures.traffic

pub returns-in-Err-feed_whole-clause-cause : goal.returns-in-Err-feed_whole-clause-cause
returns-in-Err-feed_whole-clause-cause g c =
    let some : 0 < c.in-Ok.n = let h = c.in-Ok.n-test in omega (arith, h) in
    let read = was_read (g.W.Wire.traffic c.args.wire.now) (g.W.Wire.traffic c.read.new.self) c.read.new.buffer c.split_at.result.0.now c.in-Ok.n c.split_at.ensures.front some c.in-Ok.ensures.traffic in
    read-cut c.split_at.result.0.now c.in-Err-feed_whole.end c.in-Err-feed_whole.ensures.cut _ _ read

pub returns-then-is_err-clause-cause : goal.returns-then-is_err-clause-cause
returns-then-is_err-clause-cause g c =
    let some : 0 < c.in-Ok.n = let h = c.in-Ok.n-test in omega (arith, h) in
    let read = was_read (g.W.Wire.traffic c.args.wire.now) (g.W.Wire.traffic c.read.new.self) c.read.new.buffer c.split_at.result.0.now c.in-Ok.n c.split_at.ensures.front some c.in-Ok.ensures.traffic in
    let sent = on_err-is c.write_all.result (sym c.is_err.ensures.value ∙ c.if-is_err.true) c.write_all.ensures.err in
    read-unanswered c.split_at.result.0.now _ _ _ _ read sent

pub returns-then-has_ended-clause-cause : goal.returns-then-has_ended-clause-cause
returns-then-has_ended-clause-cause g c =
    let some : 0 < c.in-Ok.n = let h = c.in-Ok.n-test in omega (arith, h) in
    let read = was_read (g.W.Wire.traffic c.args.wire.now) (g.W.Wire.traffic c.read.new.self) c.read.new.buffer c.split_at.result.0.now c.in-Ok.n c.split_at.ensures.front some c.in-Ok.ensures.traffic in
    let sent = on_ok-is c.write_all.result (sym c.is_err.ensures.value ∙ c.if-is_err.false) c.write_all.ensures.ok in
    read-closed c.split_at.result.0.now _ _ _ _ read sent

pub returns-clause-cause : goal.returns-clause-cause
returns-clause-cause g c =
    let some : 0 < c.in-Ok.n = let h = c.in-Ok.n-test in omega (arith, h) in
    let read = was_read (g.W.Wire.traffic c.args.wire.now) (g.W.Wire.traffic c.read.new.self) c.read.new.buffer c.split_at.result.0.now c.in-Ok.n c.split_at.ensures.front some c.in-Ok.ensures.traffic in
    let sent = on_ok-is c.write_all.result (sym c.is_err.ensures.value ∙ c.if-is_err.false) c.write_all.ensures.ok in
    read-on c.split_at.result.0.now _ _ _ _ read sent
