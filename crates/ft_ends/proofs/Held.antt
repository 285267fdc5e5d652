-- Clients and wires, and a step of one of them.
use Rattle.std.proofs.Common.{◌≡◌, ℕ, zero, suc, ◌<◌, ◌≤◌, ℤ, List, [], ◌∷◌, ◌++◌, get_or, length, map, set, Option, Some, None, refl, sym, ap, ◌∙◌, subst, append_assoc, arith}
use Rattle.std.specs.List.{slice_get}
use Rattle.std.proofs.lemmas.List.{map-append}
use Rattle.ft_client.specs.declared.client.FtClient.{FtClient}
use Rattle.ft_client.specs.declared.ended.Ended.{Ended as CodeEnded}
use Rattle.ft_client.specs.Clients.{Client, Ended}
use Rattle.ft_client.specs.Messages.{Call}
use Rattle.ft_client.specs.Standing.{FtStands, down}
use Rattle.ft_orb.specs.Outputs.{Made}
use Rattle.ft_objects.specs.Servants.{Meaning}
use Rattle.ft_orb.specs.Standing.{Shown, Stands}
use Rattle.ft_ends.specs.declared.post.Post.{Post}
use Rattle.ft_ends.specs.declared.wire.Wire.{Wire as CodeWire}
use Rattle.ft_ends.specs.Laws.{sides_of}
use Rattle.ft_ends.specs.Playing.{AreClientsOf, AreNew, given_of, numbered}
use Rattle.ft_ends.specs.Private.{AreBare, AreHeld, AreTaken, Holds, IsBare, IsHeld, IsReady, IsSettled, IsWireFor, Runs, calls_after, taken_of, tells}
use Rattle.ft_orb.specs.Tellings.{Telling}
use Rattle.ft_ends.specs.World.{Member, Newcomer, Step, Wire, World, client_of, emptied, given_out, member_of, moved, moved_to, step, step_of, with_client}
use Rattle.ft_ends.proofs.Stepped.{calls-moved}
use Rattle.ft_ends.proofs.Ways.{wire-still}

module _ (tells : ℕ → List Telling) where
  pub held-clients : (ms : List Member) (cs : List FtClient) (us : List Post) → AreHeld tells ms cs us → length cs ≡ length ms
  held-clients [] [] [] h = refl
  held-clients (m ∷ ms) (c ∷ cs) (u ∷ us) h = ap suc (held-clients ms cs us h.1)
  held-clients [] [] (u ∷ us) h = absurd h
  held-clients [] (c ∷ cs) us h = absurd h
  held-clients (m ∷ ms) [] us h = absurd h
  held-clients (m ∷ ms) (c ∷ cs) [] h = absurd h

  pub held-posts : (ms : List Member) (cs : List FtClient) (us : List Post) → AreHeld tells ms cs us → length us ≡ length ms
  held-posts [] [] [] h = refl
  held-posts (m ∷ ms) (c ∷ cs) (u ∷ us) h = ap suc (held-posts ms cs us h.1)
  held-posts [] [] (u ∷ us) h = absurd h
  held-posts [] (c ∷ cs) us h = absurd h
  held-posts (m ∷ ms) [] us h = absurd h
  held-posts (m ∷ ms) (c ∷ cs) [] h = absurd h

  -- the clients stand for the members
  pub held-stand : (ms : List Member) (cs : List FtClient) (us : List Post) → AreHeld tells ms cs us → AreClientsOf ms cs
  held-stand [] [] [] h = tt
  held-stand (m ∷ ms) (c ∷ cs) (u ∷ us) h = (h.0.client_is, held-stand ms cs us h.1)
  held-stand [] [] (u ∷ us) h = absurd h
  held-stand [] (c ∷ cs) us h = absurd h
  held-stand (m ∷ ms) [] us h = absurd h
  held-stand (m ∷ ms) (c ∷ cs) [] h = absurd h

  -- what stands at a place
  pub record IsAt (ms : List Member) (k : ℕ) (c : FtClient) (u : Post) : Type 0 where
    pub member : Member
    pub is : slice_get ms k ≡ Some member
    pub held : IsHeld tells member c u

  pub held-at : (ms : List Member) (cs : List FtClient) (us : List Post) (k : ℕ) (c : FtClient) (u : Post) → k < length cs → k < length us → AreHeld tells ms cs us → IsAt ms k (get_or cs k c) (get_or us k u)
  held-at (m ∷ ms) (d ∷ cs) (v ∷ us) zero c u lt lt_too h = record { member = m; is = refl; held = h.0 }
  held-at (m ∷ ms) (d ∷ cs) (v ∷ us) (suc k) c u lt lt_too h = let at = held-at ms cs us k c u (omega arith) (omega arith) h.1 in record { member = at.member; is = at.is; held = at.held }
  held-at ms [] us k c u lt lt_too h = absurd (omega arith)
  held-at ms (d ∷ cs) [] k c u lt lt_too h = absurd (omega arith)
  held-at [] (d ∷ cs) (v ∷ us) k c u lt lt_too h = absurd h

module _ (tells other : ℕ → List Telling) where
  still-one : (u : CodeWire) (o : Option Wire) → ((x : Wire) → o ≡ Some x → other x.number ≡ tells x.number) → IsWireFor tells u o → IsWireFor other u o
  still-one u None same h = h
  still-one u (Some x) same h = wire-still tells other u x (same x refl) h

  held-one : (m : Member) (c : FtClient) (u : Post) → ((x : Wire) → m.wire ≡ Some x → other x.number ≡ tells x.number) → IsHeld tells m c u → IsHeld other m c u
  held-one m c u same h = record { client_is = h.client_is; wire_is = still-one u.wire m.wire same h.wire_is; taken = h.taken }

  held-still : (ms : List Member) (cs : List FtClient) (us : List Post) → ((k : ℕ) (m : Member) (x : Wire) → slice_get ms k ≡ Some m → m.wire ≡ Some x → other x.number ≡ tells x.number) → AreHeld tells ms cs us → AreHeld other ms cs us
  held-still [] [] [] same h = tt
  held-still (m ∷ ms) (c ∷ cs) (u ∷ us) same h = (held-one m c u (λ x on. same zero m x refl on) h.0, held-still ms cs us (λ k n x is on. same (suc k) n x is on) h.1)
  held-still [] [] (u ∷ us) same h = absurd h
  held-still [] (c ∷ cs) us same h = absurd h
  held-still (m ∷ ms) [] us same h = absurd h
  held-still (m ∷ ms) (c ∷ cs) [] same h = absurd h

  -- one of them is set
  pub held-set : (ms : List Member) (cs : List FtClient) (us : List Post) (k : ℕ) (m : Member) (c : FtClient) (u : Post)
      → ((j : ℕ) (n : Member) (x : Wire) → slice_get ms j ≡ Some n → n.wire ≡ Some x → (j ≡ k → ⊥) → other x.number ≡ tells x.number) → IsHeld other m c u → AreHeld tells ms cs us
      → AreHeld other (set ms k m) (set cs k c) (set us k u)
  held-set [] [] [] k m c u same own h = tt
  held-set (n ∷ ms) (d ∷ cs) (v ∷ us) zero m c u same own h = (own, held-still ms cs us (λ j p x is on. same (suc j) p x is on (λ e. absurd (omega (arith, e)))) h.1)
  held-set (n ∷ ms) (d ∷ cs) (v ∷ us) (suc k) m c u same own h =
      (held-one n d v (λ x on. same zero n x refl on (λ e. absurd (omega (arith, e)))) h.0, held-set ms cs us k m c u (λ j p x is on apart. same (suc j) p x is on (λ e. apart (omega (arith, e)))) own h.1)
  held-set [] [] (u' ∷ us) k m c u same own h = absurd h
  held-set [] (d ∷ cs) us k m c u same own h = absurd h
  held-set (n ∷ ms) [] us k m c u same own h = absurd h
  held-set (n ∷ ms) (d ∷ cs) [] k m c u same own h = absurd h

-- New clients, and as many without connections beside them.
pub held-new : (tells : ℕ → List Telling) (ns : List Newcomer) (cs : List FtClient) (us : List Post) → AreNew ns cs → AreBare (length cs) us → AreHeld tells (map member_of ns) cs us
held-new tells [] [] [] new bare = tt
held-new tells (n ∷ ns) (c ∷ cs) (u ∷ us) new bare = (record { client_is = new.0; wire_is = bare.0.wire; taken = ap (map taken_of) bare.0.taken }, held-new tells ns cs us new.1 bare.1)
held-new tells [] [] (u ∷ us) new bare = absurd bare
held-new tells [] (c ∷ cs) us new bare = absurd new
held-new tells (n ∷ ns) [] us new bare = absurd new
held-new tells (n ∷ ns) (c ∷ cs) [] new bare = absurd bare

pub new-stand : (ns : List Newcomer) (cs : List FtClient) → AreNew ns cs → AreClientsOf (map member_of ns) cs
new-stand [] [] h = tt
new-stand (n ∷ ns) (c ∷ cs) h = (h.0, new-stand ns cs h.1)
new-stand [] (c ∷ cs) h = absurd h
new-stand (n ∷ ns) [] h = absurd h

none-at : {A : Type 0} (xs : List A) (k : ℕ) → length xs ≤ k → slice_get xs k ≡ None
none-at [] k h = refl
none-at (x ∷ xs) zero h = absurd (omega arith)
none-at (x ∷ xs) (suc k) h = none-at xs k (omega arith)

module _ {State : Type 0} (meaning : Meaning State) (made : Made State) (before : List (ℕ × ℤ × Ended)) where
  -- A step of no client does nothing.
  pub runs-still : (server : Shown State) (opened : ℕ) (cs : List FtClient) (us : List Post) (out : List (ℕ × ℤ × CodeEnded)) (w : World) (s : Step) → length w.members ≤ client_of s → Runs meaning made server opened cs us before out w
      → Runs meaning made server opened cs us before out (step (sides_of meaning made down) w s)
  runs-still server opened cs us out w s none h = subst (λ (o : Option Member). Runs meaning made server opened cs us before out (step_of (sides_of meaning made down) w s o)) (sym (none-at w.members (client_of s) none)) h

  -- A step of a client.
  pub runs-step : (cs : List FtClient) (us : List Post) (out : List (ℕ × ℤ × CodeEnded)) (w : World) (s : Step) (m : Member) (old next : Shown State) (opened opened' : ℕ) (client : FtClient) (post : Post) (now : List (ℕ × ℤ × CodeEnded))
      → slice_get w.members (client_of s) ≡ Some m → Runs meaning made old opened cs us before out w → IsReady meaning made w s
      → Stands meaning made next (moved (sides_of meaning made down) w.past w.opened s m).past → IsWireFor (tells meaning made (moved (sides_of meaning made down) w.past w.opened s m).past) post.wire (moved (sides_of meaning made down) w.past w.opened s m).member.wire
      → AreTaken post.taken.items (moved (sides_of meaning made down) w.past w.opened s m).member.life.calls
      → opened' ≡ (moved (sides_of meaning made down) w.past w.opened s m).opened
      → FtStands client (record (moved (sides_of meaning made down) w.past w.opened s m).member.life.client { completions = [] })
      → map given_of now ≡ map given_of out ++ map numbered (with_client (client_of s) (moved (sides_of meaning made down) w.past w.opened s m).member.life.client.completions)
      → Runs meaning made next opened' (set cs (client_of s) client) (set us (client_of s) post) before now (step (sides_of meaning made down) w s)
  runs-step cs us out w s m old next opened opened' client post now here h ready stands wire_is taken opened_is client_is given =
      let sides = sides_of meaning made down in
      let k = client_of s in
      let v = moved sides w.past w.opened s m in
      let is : step sides w s ≡ given_out sides k w v = ap (step_of sides w s) here in
      let m' : Member = record v.member { life = emptied v.member.life } in
      let xs = with_client k v.member.life.client.completions in
      subst (λ (u : World). Runs meaning made next opened' (set cs k client) (set us k post) before now u) (sym is) (record {
        server_is = stands;
        opened_is = opened_is;
        held = held-set (tells meaning made w.past) (tells meaning made v.past) w.members cs us k m' client post
            (λ j n x at on apart. ap (λ (u : World). tells meaning made u.past x.number) (sym is) ∙ ready.others j n x at on apart) (record { client_is = client_is; wire_is = wire_is; taken = taken }) h.held;
        given = given ∙ ap (λ (o : List (ℕ × ℤ × Ended)). o ++ map numbered xs) h.given ∙ append_assoc before (map numbered w.completions) (map numbered xs) ∙ ap (λ (o : List (ℕ × ℤ × Ended)). before ++ o) (sym (map-append numbered w.completions xs));
      })

-- one more
pub bare-push : (n : ℕ) (us : List Post) (u : Post) → IsBare u → AreBare n us → AreBare (suc n) (us ++ u ∷ [])
bare-push zero [] u is h = (is, tt)
bare-push (suc n) (v ∷ us) u is h = (h.0, bare-push n us u is h.1)
bare-push zero (v ∷ us) u is h = absurd h
bare-push (suc n) [] u is h = absurd h

set-twice : {A : Type 0} (xs : List A) (k : ℕ) (x y : A) → set (set xs k x) k y ≡ set xs k y
set-twice [] k x y = refl
set-twice (z ∷ xs) zero x y = refl
set-twice (z ∷ xs) (suc k) x y = ap (λ (l : List _). z ∷ l) (set-twice xs k x y)

get-set : {A : Type 0} (xs : List A) (k : ℕ) (x d : A) → k < length xs → get_or (set xs k x) k d ≡ x
get-set [] k x d lt = absurd (omega arith)
get-set (z ∷ xs) zero x d lt = refl
get-set (z ∷ xs) (suc k) x d lt = get-set xs k x d (omega arith)

module _ {State : Type 0} (meaning : Meaning State) (made : Made State) (before : List (ℕ × ℤ × Ended)) where
  -- A step at a place of the lists, with its completions.
  pub runs-stepped : (old next : Shown State) (opened opened' : ℕ) (cs : List FtClient) (us : List Post) (out now : List (ℕ × ℤ × CodeEnded)) (w : World) (s : Step) (k : ℕ) (c c1 d c2 : FtClient) (u u1 : Post)
      → k ≡ client_of s → k < length cs → k < length us → c ≡ get_or cs k c → u ≡ get_or us k u
      → ((m : Member) → Holds meaning made old c u.wire (moved_to w.past opened m) → IsSettled meaning made w.past opened m s → AreTaken u.taken.items m.life.calls
      → Holds meaning made next c1 u1.wire (moved (sides_of meaning made down) w.past opened s m) × (opened' ≡ (moved (sides_of meaning made down) w.past opened s m).opened))
      → ((e : Client) (calls : List (ℕ × Call)) → FtStands c e → AreTaken u.taken.items calls → AreTaken u1.taken.items (calls_after s e calls))
      → d ≡ get_or (set cs k c1) k d → ((e : Client) → FtStands d e → map given_of now ≡ map given_of out ++ map numbered (with_client k e.completions)) → ((e : Client) → FtStands d e → FtStands c2 (record e { completions = [] }))
      → Runs meaning made old opened cs us before out w → IsReady meaning made w s
      → Runs meaning made next opened' (set (set cs k c1) k c2) (set us k u1) before now (step (sides_of meaning made down) w s)
  runs-stepped old next opened opened' cs us out now w s k c c1 d c2 u u1 at lt lt_too is_c is_u moves kept is_d given stood h ready =
      let sides = sides_of meaning made down in
      let here = held-at (tells meaning made w.past) w.members cs us k c u lt lt_too h.held in
      let m = here.member in
      let there : slice_get w.members (client_of s) ≡ Some m = ap (slice_get w.members) (sym at) ∙ here.is in
      let settled = subst (λ (o : ℕ). IsSettled meaning made w.past o m s) (sym h.opened_is) (ready.settled m there) in
      let own : IsHeld (tells meaning made w.past) m c u = subst (λ (x : FtClient). IsHeld (tells meaning made w.past) m x u) (sym is_c) (subst (λ (x : Post). IsHeld (tells meaning made w.past) m (get_or cs k c) x) (sym is_u) here.held) in
      let holds : Holds meaning made old c u.wire (moved_to w.past opened m) = record { server_is = h.server_is; client_is = own.client_is; wire_is = own.wire_is } in
      let r = subst (λ (o : ℕ). Holds meaning made next c1 u1.wire (moved sides w.past o s m) × (opened' ≡ (moved sides w.past o s m).opened)) h.opened_is (moves m holds settled own.taken) in
      let v = moved sides w.past w.opened s m in
      let taken = subst (λ (calls : List (ℕ × Call)). AreTaken u1.taken.items calls) (sym (calls-moved sides w.past w.opened s m)) (kept m.life.client m.life.calls own.client_is own.taken) in
      let same : d ≡ c1 = is_d ∙ get-set cs k c1 d lt in
      let client_is : FtStands d v.member.life.client = subst (λ (x : FtClient). FtStands x v.member.life.client) (sym same) r.0.client_is in
      subst (λ (xs : List FtClient). Runs meaning made next opened' xs (set us k u1) before now (step sides w s)) (sym (set-twice cs k c1 c2))
      (subst (λ (j : ℕ). Runs meaning made next opened' (set cs j c2) (set us j u1) before now (step sides w s)) (sym at)
      (runs-step meaning made before cs us out w s m old next opened opened' c2 u1 now there h ready r.0.server_is r.0.wire_is taken r.1 (stood v.member.life.client client_is)
      (given v.member.life.client client_is ∙ ap (λ (j : ℕ). map given_of out ++ map numbered (with_client j v.member.life.client.completions)) at)))
