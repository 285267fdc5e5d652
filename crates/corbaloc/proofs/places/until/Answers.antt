use Rattle.std.proofs.Common.{Some, None, sym, inl, refl}
use Rattle.std.proofs.lemmas.List.{append-nil}
use Rattle.std.proofs.lemmas.Str.Pattern.{find_char}
use Rattle.corbaloc.proofs.Cuts.{until_at}
use Rattle.corbaloc.proofs.places.until.Goals as goal

pub returns-in-Some : goal.returns-in-Some
returns-in-Some c =
    until_at c.args.mark c.args.text.now c.split_at.result.0.now c.split_at.result.1.now c.in-Some.at c.split_at.ensures.front c.split_at.ensures.back (find_char c.args.mark c.args.text.now (Some c.in-Some.at) c.in-Some.ensures.cases c.requires)

pub returns-in-None : goal.returns-in-None
returns-in-None c =
    (sym (append-nil c.args.text.now), find_char c.args.mark c.args.text.now None c.in-None.ensures.cases c.requires, inl refl)
