use Rattle.std.proofs.Common.{[]}
use Rattle.ft_orb.specs.Answers.{calls_of, owner_of}
use Rattle.ft_orb.specs.Engines.{as_server}
use Rattle.ft_orb.specs.Outputs.{past_after}
use Rattle.ft_orb.specs.Owners.{Owner, made_of, meaning_of}
use Rattle.ft_orb.proofs.Headline.{plays-agree, servant-is}
use Rattle.ft_orb.proofs.engine.Engine.plays_act_once.Goals as goal

pub returns : goal.returns
returns g c limits capacity share answers es entries plays h one =
    let owner : Owner = owner_of (g.C.Catalogue.offers c.args.self.now.offering.catalogue) limits capacity share answers in
    (plays-agree (meaning_of owner) (made_of owner) [] es entries one plays, servant-is (meaning_of owner) (made_of owner) (as_server c.args.self.now (calls_of answers)) (past_after limits [] es entries) h.stands one)
