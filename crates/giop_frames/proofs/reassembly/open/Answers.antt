use Rattle.std.proofs.Common.{rules, ◌≡◌, ℕ, ◌≤◌, ◌<◌, true, false, length, drop, refl, ap, arith, Vec, Global}
use Rattle.std.specs.Vec.{vec_len}
use Rattle.giop_frames.specs.Standing.{framed, entries}
use Rattle.giop_frames.proofs.Judging.{keyed, partial-at, count-of, opened, opens-quiet, opens-too_many, opens-twice}
use Rattle.giop_frames.specs.Fragments.{key_of}
use Rattle.giop_frames.proofs.reassembly.open.Goals as goal

pub returns-then-is_among-clause-by : goal.returns-then-is_among-clause-by
returns-then-is_among-clause-by c =
    let f = framed c.args.header.now c.args.frame.now.items in
    opens-twice c.args.limits.now _ _ f (partial-at c.key_of-key.result (key_of f) c.args.parts.now.items c.as_slice-2.result.now true c.as_slice-2.ensures.value (keyed c.args.header.now c.args.frame.now.items c.as_slice.result.now c.key_of-key.result c.as_slice.ensures.value c.key_of-key.ensures) c.if-is_among.ensures)

pub returns-then-from-len-clause-by : goal.returns-then-from-len-clause-by
returns-then-from-len-clause-by c =
    let f = framed c.args.header.now c.args.frame.now.items in
    let full : c.args.limits.now.partials ≤ length (entries c.args.parts.now.items) = omega (arith, c.if-from-len.true, c.len.ensures, c.from.ensures, count-of c.args.parts.now.items) in
    opens-too_many c.args.limits.now _ _ f (partial-at c.key_of-key.result (key_of f) c.args.parts.now.items c.as_slice-2.result.now false c.as_slice-2.ensures.value (keyed c.args.header.now c.args.frame.now.items c.as_slice.result.now c.key_of-key.result c.as_slice.ensures.value c.key_of-key.ensures) c.if-is_among.ensures) full

pub returns-clause-by : goal.returns-clause-by
returns-clause-by c =
    let f = framed c.args.header.now c.args.frame.now.items in
    let free : length (entries c.args.parts.now.items) < c.args.limits.now.partials = omega (arith, c.if-from-len.false, c.len.ensures, c.from.ensures, count-of c.args.parts.now.items) in (
      opens-quiet c.args.limits.now _ _ f (partial-at c.key_of-key.result (key_of f) c.args.parts.now.items c.as_slice-2.result.now false c.as_slice-2.ensures.value (keyed c.args.header.now c.args.frame.now.items c.as_slice.result.now c.key_of-key.result c.as_slice.ensures.value c.key_of-key.ensures) c.if-is_among.ensures) free,
      search rules,
      opened c.args.parts.now.items _ _ f c.in_ok-push.ensures.items (keyed c.args.header.now c.args.frame.now.items c.as_slice.result.now c.key_of-key.result c.as_slice.ensures.value c.key_of-key.ensures) refl (ap (λ (v : Vec ℕ Global). drop 12 v.items) c.replace-octets.ensures.value),
    )

pub invariant_of-push-clause-read : goal.invariant_of-push-clause-read
invariant_of-push-clause-read c =
    let same : vec_len c.replace-octets.result ≡ vec_len c.args.frame.now = ap (λ (v : Vec ℕ Global). vec_len v) c.replace-octets.ensures.value in
    record { place = omega (arith, same, c.requires.long); same = λ more. refl }
