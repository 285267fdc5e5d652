use Rattle.std.proofs.Common.{◌≡◌, ◌∙◌, ℕ, ◌≤◌, length, ap, arith}
use Rattle.std.proofs.lemmas.Bool.{le-leb, leb-true}
use Rattle.lemonrudder.specs.Sizes.{profile_end}
use Rattle.lemonrudder.proofs.Addressing.{profile_counted, writable_reference}
use Rattle.lemonrudder.proofs.referring.Address.has_reference.Goals as goal

pub returns : goal.returns
returns c =
    let id = c.args.type_id.now in
    let a = c.args.self.now in
    let n = length a.host.now in
    let ends : c.profile_end.result ≡ profile_end c.args.minor n (length a.key.now) =
    c.profile_end.ensures ∙ ap (λ (m : ℕ). profile_end c.args.minor m c.count_of-2.result) c.count_of.ensures ∙ ap (profile_end c.args.minor n) c.count_of-2.ensures in (
      λ yes.
          let few : c.profile_end.result ≤ 4294967295 = leb-true c.profile_end.result 4294967295 yes in
          writable_reference id c.args.minor a.host.now a.port a.key.now (c.is_text.ensures.0 c.if-not-is_text.false) (omega (arith, few, ends)),
      λ can. let few = profile_counted id c.args.minor a.host.now a.port a.key.now can in le-leb c.profile_end.result 4294967295 (omega (arith, few, ends)),
    )
