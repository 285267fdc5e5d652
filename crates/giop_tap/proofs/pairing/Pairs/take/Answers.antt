use Rattle.std.proofs.Common.{◌≡◌, ℕ, suc, ◌∷◌, length, Option, Some, sym, ap, subst, ◌∙◌}
use Rattle.giop_core.specs.Lent.{content_of}
use Rattle.giop_core.specs.Ft.{Ft, ft_seen}
use Rattle.giop_tap.specs.declared.part.Part.{Part}
use Rattle.giop_tap.specs.declared.pairing.Tie.{Tie}
use Rattle.giop_tap.specs.Keys.{KeysStand}
use Rattle.giop_tap.specs.Pairing as pairs
use Rattle.giop_tap.specs.Remembered as memory
use Rattle.giop_tap.specs.Pairing.{Said}
use Rattle.giop_tap.specs.Tracing.{Paired, PairsStand}
use Rattle.giop_tap.specs.Waiting.{AreWaiting}
use Rattle.giop_tap.proofs.Rising.{waiting-rises}
use Rattle.giop_tap.proofs.pairing.Pairs.take.Goals as goal

pub returns-clause-stands : goal.returns-clause-stands
returns-clause-stands c = λ earlier stands.
    let m : Said = record { connection = c.args.connection; sender = c.args.sender; content = content_of c.args.content.now } in
    let old : PairsStand (record { count = c.self.inside.count; last = c.self.inside.last; waiting = c.self.inside.waiting.entries; keyed = c.self.inside.keyed }) earlier =
    subst (λ (p : Paired). PairsStand p earlier) (sym c.self.view_is) stands in
    let count : c.in_ok-number.number ≡ suc (length earlier) = c.in_ok-number.ensures ∙ ap suc old.count_is in
    let request : c.in_ok-request.request ≡ pairs.request_of m earlier =
    c.in_ok-request.ensures.request (pairs.waiting earlier) (waiting-rises earlier) old.waiting_are
    ∙ ap (λ (p : Part). pairs.number_of (pairs.latest (pairs.is_about c.args.connection c.args.sender p) (pairs.waiting earlier))) c.part_of-part.ensures in
    let most : ℕ = c.self.inside.keyed.most in
    let kept : most ≡ c.take.new.self.most = sym c.in_ok-repeats.ensures.most in
    let repeats : c.in_ok-repeats.repeats ≡ memory.repeat_of most m earlier =
    c.in_ok-repeats.ensures.first (memory.remembered most earlier) old.keyed_stand ∙ ap (λ (f : Ft). memory.first_with f (memory.remembered most earlier)) c.field_of.ensures in
    let tie : record { request = c.in_ok-request.request; repeats = c.in_ok-repeats.repeats } ≡ memory.tie_of most m earlier =
    ap (λ (r : Option ℕ). record { request = r; repeats = c.in_ok-repeats.repeats }) request
    ∙ ap (λ (r : Option ℕ). record { request = pairs.request_of m earlier; repeats = r }) repeats in
    record {
      count_is = count;
      last_is = subst (λ (k : ℕ). Some (record { request = c.in_ok-request.request; repeats = c.in_ok-repeats.repeats }) ≡ memory.last_tie k (m ∷ earlier)) kept (ap (λ (t : Tie). Some t) tie);
      waiting_are = subst (λ (p : Part). AreWaiting c.take_part.new.waiting.entries (pairs.waiting_after (suc (length earlier)) c.args.connection c.args.sender p (pairs.waiting earlier))) c.part_of-part.ensures
          (subst (λ (n : ℕ). AreWaiting c.take_part.new.waiting.entries (pairs.waiting_after n c.args.connection c.args.sender c.part_of-part.result (pairs.waiting earlier))) count
          (c.in_ok-request.ensures.waiting (pairs.waiting earlier) old.waiting_are));
      keyed_stand = subst (λ (k : ℕ). KeysStand c.take.new.self (memory.remembered k (m ∷ earlier))) kept
          (subst (λ (f : Ft). KeysStand c.take.new.self (memory.remembered_after most (suc (length earlier)) f (memory.remembered most earlier))) c.field_of.ensures
          (subst (λ (n : ℕ). KeysStand c.take.new.self (memory.remembered_after most n (ft_seen c.field_of.result) (memory.remembered most earlier))) count
          (c.in_ok-repeats.ensures.stands (memory.remembered most earlier) old.keyed_stand)));
    }

pub returns-clause-tie : goal.returns-clause-tie
returns-clause-tie c = λ earlier stands.
    let m : Said = record { connection = c.args.connection; sender = c.args.sender; content = content_of c.args.content.now } in
    let old : PairsStand (record { count = c.self.inside.count; last = c.self.inside.last; waiting = c.self.inside.waiting.entries; keyed = c.self.inside.keyed }) earlier =
    subst (λ (p : Paired). PairsStand p earlier) (sym c.self.view_is) stands in
    let request : c.in_ok-request.request ≡ pairs.request_of m earlier =
    c.in_ok-request.ensures.request (pairs.waiting earlier) (waiting-rises earlier) old.waiting_are
    ∙ ap (λ (p : Part). pairs.number_of (pairs.latest (pairs.is_about c.args.connection c.args.sender p) (pairs.waiting earlier))) c.part_of-part.ensures in
    let most : ℕ = c.self.inside.keyed.most in
    let repeats : c.in_ok-repeats.repeats ≡ memory.repeat_of most m earlier =
    c.in_ok-repeats.ensures.first (memory.remembered most earlier) old.keyed_stand ∙ ap (λ (f : Ft). memory.first_with f (memory.remembered most earlier)) c.field_of.ensures in
    subst (λ (k : ℕ). record { request = c.in_ok-request.request; repeats = c.in_ok-repeats.repeats } ≡ memory.tie_of k m earlier) (ap (λ (p : Paired). p.keyed.most) c.self.view_is)
    (ap (λ (r : Option ℕ). record { request = r; repeats = c.in_ok-repeats.repeats }) request
    ∙ ap (λ (r : Option ℕ). record { request = pairs.request_of m earlier; repeats = r }) repeats)
