use Rattle.std.proofs.Common.{List, [], ◌∷◌, ◌++◌, None, ◌≡◌, ◌≤◌, sym, ap, ◌∙◌, subst, arith}
use Rattle.ft_log.specs.Holding.{Holding, known}
use Rattle.ft_log.specs.Kept.{KeptOutcome, unexpired}
use Rattle.ft_log.specs.Logged.{Logged, Shown, clock_of, logged, stale_of}
use Rattle.ft_log.specs.Store.{live_from, shown}
use Rattle.ft_log.specs.View.{key_of, performed_in}
use Rattle.ft_log.proofs.Gone.{gone-like, gone-push, gone-zero}
use Rattle.ft_log.proofs.Live.{unexpired-push}
use Rattle.ft_log.proofs.Seen.{seen, shown-is}
use Rattle.ft_log.proofs.log.Log.keep.Goals as goal

pub keep-requires : goal.keep-requires
keep-requires c =
    let old = seen c.self.inside.clock c.self.inside.store c.args.self.now c.self.view_is in
    ap (λ (l : Logged). l.room) (c.clock_for-self-inside.ensures.same ∙ old) ∙ c.requires

pub returns-clause-entries : goal.returns-clause-entries
returns-clause-entries c =
    let old = seen c.self.inside.clock c.self.inside.store c.args.self.now c.self.view_is in
    let clock = c.clock_for-self-inside.result in
    let was : Logged = logged (shown c.clock_for-self-inside.new.self) in
    let e : KeptOutcome Holding = record { key = key_of c.args.key; expiration = c.args.expiration; outcome = known (performed_in c.args.outcome) } in
    shown-is clock c.keep.new.self ∙ ap (live_from clock) c.keep.ensures
    ∙ ap (λ (es : List (KeptOutcome Holding)). record was { entries = es; room = None }) (unexpired-push clock was.entries e c.clock_for-self-inside.ensures.below)
    ∙ ap (λ (l : Logged). record l { entries = l.entries ++ e ∷ []; room = None }) (c.clock_for-self-inside.ensures.same ∙ old)

pub returns-clause-clock : goal.returns-clause-clock
unfolding clock_of
returns-clause-clock c = λ le.
    let clock = ap (λ (v : Shown). v.clock) c.self.view_is in
    (c.clock_for-self-inside.ensures.stays (subst (λ n. n ≤ c.args.expiration) (sym clock) le)).0 ∙ clock

pub returns-clause-stale : goal.returns-clause-stale
unfolding logged stale_of clock_of
returns-clause-stale c = λ le.
    let s = c.self.inside.store in
    let mid = c.clock_for-self-inside.new.self in
    let w = c.keep.new.self in
    let clock = c.clock_for-self-inside.result in
    let e : KeptOutcome Holding = record { key = key_of c.args.key; expiration = c.args.expiration; outcome = known (performed_in c.args.outcome) } in
    let stays = c.clock_for-self-inside.ensures.stays (subst (λ n. n ≤ c.args.expiration) (sym (ap (λ (v : Shown). v.clock) c.self.view_is)) le) in
    let all = ap (λ (l : Logged). l.entries) c.keep.ensures in
    let live = ap (unexpired clock) all ∙ unexpired-push clock (logged (shown mid)).entries e c.clock_for-self-inside.ensures.below in
    gone-push clock mid.story.entries w.story.entries e all live ∙ gone-like clock c.self.inside.clock mid.story.entries s.story.entries stays.0 stays.1
    ∙ ap (λ (v : Shown). v.stale) c.self.view_is

pub returns-clause-past : goal.returns-clause-past
unfolding stale_of clock_of
returns-clause-past c = λ lt.
    let clock = ap (λ (v : Shown). v.clock) c.self.view_is in
    let zero : c.clock_for-self-inside.result ≡ 0 = c.clock_for-self-inside.ensures.past (omega (arith, lt, clock)) in
    (zero, gone-zero c.clock_for-self-inside.result c.keep.new.self.story.entries zero)
