use Rattle.std.proofs.Common.{◌≡◌, ◌-◌, refl, sym, subst, rules}
use Rattle.giop_tap.specs.Keys.{Kept, KeysStand}
use Rattle.giop_tap.specs.Pairing.{weight_of}
use Rattle.giop_tap.proofs.Keyed.{key-pushed}
use Rattle.giop_tap.proofs.keys.Keyed.push.Goals as goal

pub returns-clause-stands : goal.returns-clause-stands
returns-clause-stands c = λ s stands none.
    let k : Kept = record { most = c.self.inside.most; last = c.self.inside.last.entries; before = c.self.inside.before.entries; room = c.self.inside.room; has_before = c.self.inside.has_before; forgot = c.self.inside.forgot } in
    let room : c.saturating_sub-self-inside.result ≡ c.self.inside.room - weight_of c.args.key.client_id.items = search rules in
    let k' : Kept = record { most = c.self.inside.most; last = c.insert.new.self.entries; before = c.self.inside.before.entries; room = c.saturating_sub-self-inside.result; has_before = c.self.inside.has_before; forgot = c.self.inside.forgot } in
    let old : KeysStand k s = subst (λ (k : Kept). KeysStand k s) (sym c.self.view_is) stands in
    key-pushed k k' s c.args.key c.args.number old none c.in_ok-insert.ensures.updates.0 refl room refl refl
