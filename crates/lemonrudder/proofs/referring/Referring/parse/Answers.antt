use Rattle.std.proofs.Common.{◌≡◌, Some, None, rules, inr, subst}
use Rattle.lemonrudder.specs.Makes.{IsLocated}
use Rattle.lemonrudder.proofs.referring.Referring.parse.Goals as goal

pub returns-in-Some : goal.returns-in-Some
returns-in-Some c =
    let same : c.in_ok-text.text.now ≡ c.args.text.now = search rules in
    inr ((search rules), subst (λ text. IsLocated text (Some c.in-Some.ior)) same (subst (λ found. IsLocated c.in_ok-text.text.now found) c.in-Some.is c.in_ok-ior-in-Err-NoPrefix.ensures))

pub returns-in-None : goal.returns-in-None
returns-in-None c =
    let same : c.in_ok-text.text.now ≡ c.args.text.now = search rules in
    inr (inr ((search rules), subst (λ text. IsLocated text None) same (subst (λ found. IsLocated c.in_ok-text.text.now found) c.in-None.is c.in_ok-ior-in-Err-NoPrefix.ensures)))
