-- What is read of a message of 1.1 for its request id, as more of it comes.
use Rattle.std.proofs.Common.{◌≡◌, ℕ, ◌+◌, ◌-◌, ◌<◌, ◌≤◌, ◌≢◌, false, List, [], ◌++◌, length, drop, suc, Some, None, Result, Ok, Err, IsErr, refl, sym, ap, subst, ◌∙◌, append_assoc, length-append, length-drop, arith}
use Rattle.std.proofs.lemmas.List.{append-nil, drop-append-le, drop-drop}
use Rattle.std.proofs.Math.Seq.{drop-append_seam}
use Rattle.std.proofs.lemmas.Bool.{le-ltb}
use Rattle.std.specs.Borrow.{Bor}
use Rattle.std.specs.Result.{is_err}
use Rattle.cdr_core.specs.declared.fault.Fault.{Fault}
use Rattle.cdr_core.specs.declared.order.Order.{Order}
use Rattle.cdr_core.specs.Cursor.{Gives, Position}
use Rattle.cdr_core.specs.Form.{Form}
use Rattle.cdr_core.specs.Laws.{ReadIsSpelled, SpelledIsRead}
use Rattle.cdr_core.specs.Parts.{most, ulong, ulong_value}
use Rattle.cdr_core.specs.Reading.{◌>>=◌, Read, each_at, length_at, number_at, value_at, whole_at}
use Rattle.cdr_core.specs.Value.{Value, sequence, value}
use Rattle.ior_core.specs.Grammar.{tagged}
use Rattle.ior_core.specs.View.{lent_value}
use Rattle.giop_core.specs.Begun.{number_read, request_id_in}
use Rattle.giop_core.specs.Content.{natural}
use Rattle.giop_core.specs.Rows.{contexts}
use Rattle.giop_frames.specs.declared.naming.Named.{Named}
use Rattle.giop_frames.specs.Naming.{IsAt, IsReadTo, Passes, id_after, id_from, id_in, id_read, place_of}

-- a value of a message ends at a place in it, and is the same whatever comes
pub record IsThere (t : Form) (order : Order) (o : ℕ) (message : List ℕ) (v : Value) (p : ℕ) (left : List ℕ) : Type 0 where
  pub place : p ≤ length message
  pub rest : left ≡ drop p message
  pub same : (more : List ℕ) → value_at t order o (drop o (message ++ more)) ≡ Ok (v, p, drop p (message ++ more))

same_read : (v : Value) (p q : ℕ) (x y : List ℕ) → p ≡ q → x ≡ y → ◌≡◌ {A = Read Value} (Ok (v, p, x)) (Ok (v, q, y))
same_read v p q x y a b = rw (a, b) refl

pub is-there : ReadIsSpelled → SpelledIsRead → (t : Form) (order : Order) (o : ℕ) (message : List ℕ) (v : Value) (p : ℕ) (left : List ℕ) → o ≤ length message → value_at t order o (drop o message) ≡ Ok (v, p, left) → IsThere t order o message v p left
is-there found only t order o message v p left within e =
    let s = found t order o (drop o message) v p left e in
    let back : drop p message ≡ left =
    ap (λ (n : ℕ). drop n message) s.place ∙ sym (drop-drop (length s.front) o message) ∙ ap (drop (length s.front)) s.parts ∙ drop-append_seam s.front left in
    let inside : p ≤ length message = omega (arith, within, s.place, ap length s.parts, length-append s.front left, length-drop o message) in
    record {
      place = inside;
      rest = sym back;
      same = λ more.
          let all : drop o (message ++ more) ≡ s.front ++ (left ++ more) = drop-append-le o message more within ∙ ap (λ (x : List ℕ). x ++ more) s.parts ∙ append_assoc s.front left more in
          let end : drop p (message ++ more) ≡ left ++ more = drop-append-le p message more inside ∙ ap (λ (x : List ℕ). x ++ more) back in
          ap (value_at t order o) all ∙ only t order v o s.front (left ++ more) s.holds ∙ same_read v (o + length s.front) p (left ++ more) (drop p (message ++ more)) (sym s.place) (sym end);
    }

-- the number of service contexts, an unsigned long

read_is : (x y : Value × ℕ × List ℕ) → ◌≡◌ {A = Read Value} (Ok x) (Ok y) → x ≡ y
read_is x y e = cc

counted : (r : Read ℕ) (order : Order) (o n p : ℕ) (octets rest : List ℕ) → n ≤ most → number_at order 4 o octets ≡ r → value_at ulong order o octets ≡ Ok (ulong_value n, p, rest) → length_at order 0 most o octets ≡ Ok (n, p, rest)
unfolding value_at whole_at length_at
counted (Err f) order o n p octets rest fits is e = absurd (let k = rw is at e in cc)
counted (Ok x) order o n p octets rest fits is e =
    let k = read_is (ulong_value x.0, x.1, x.2) (ulong_value n, p, rest) (rw is at e) in
    let number : x.0 ≡ n = ap (λ (y : Value × ℕ × List ℕ). natural y.0) k in
    let place : x.1 ≡ p = ap (λ (y : Value × ℕ × List ℕ). y.1) k in
    let others : x.2 ≡ rest = ap (λ (y : Value × ℕ × List ℕ). y.2) k in
    rw (is, number, place, others, le-ltb most (n - 0) (omega (arith, fits))) refl

uncounted : (r : Read ℕ) (order : Order) (o : ℕ) (octets : List ℕ) (f : Fault) → number_at order 4 o octets ≡ r → value_at ulong order o octets ≡ Err f → length_at order 0 most o octets ≡ Err f
unfolding value_at whole_at length_at
uncounted (Err d) order o octets f is e = let k = rw is at e in rw is cc
uncounted (Ok x) order o octets f is e = absurd (let k = rw is at e in cc)

-- the id after service contexts, and after their number

contexts-at : (order : Order) (o : ℕ) (octets : List ℕ) → value_at contexts order o octets ≡ (length_at order 0 most o octets >>= λ n. each_at (value_at tagged order) n.0 n.1 n.2 >>= λ x. Ok (sequence x.0, x.1, x.2))
unfolding value_at
contexts-at order o octets = refl

-- what is read before the id is all the same to it
abbrev as_is : {A B : Type 0} → (A → B) → A × ℕ × List ℕ → Read B
as_is g x = Ok (g x.0, x.1, x.2)

abbrev goes_on : {A : Type 0} → (ℕ → List ℕ → Read Value) → A × ℕ × List ℕ → Read Value
goes_on h x = h x.1 x.2

passed-over : {A B : Type 0} (r : Read A) (g : A → B) (h : ℕ → List ℕ → Read Value) → number_read ((r >>= as_is g) >>= goes_on h) ≡ number_read (r >>= goes_on h)
passed-over (Ok x) g h = refl
passed-over (Err f) g h = refl

id-counted : (order : Order) (message : List ℕ) (n p : ℕ) → length_at order 0 most 12 (drop 12 message) ≡ Ok (n, p, drop p message) → id_in order message ≡ id_after order message p n
unfolding request_id_in id_after
id-counted order message n p e = rw (contexts-at order 12 (drop 12 message), e) (passed-over (each_at (value_at tagged order) n p (drop p message)) sequence (value_at ulong order))

id-uncounted : (order : Order) (message : List ℕ) (f : Fault) → length_at order 0 most 12 (drop 12 message) ≡ Err f → id_in order message ≡ None
unfolding request_id_in
id-uncounted order message f e = rw (contexts-at order 12 (drop 12 message), e) refl

id-next : (order : Order) (message : List ℕ) (o n p : ℕ) (v : Value) → value_at tagged order o (drop o message) ≡ Ok (v, p, drop p message) → id_after order message o (suc n) ≡ id_after order message p n
unfolding id_after each_at
id-next order message o n p v e = rw e (passed-over (each_at (value_at tagged order) n p (drop p message)) (value v) (value_at ulong order))

id-cut : (order : Order) (message : List ℕ) (o n : ℕ) (r : Read Value) → value_at tagged order o (drop o message) ≡ r → IsErr r → id_after order message o (suc n) ≡ None
unfolding id_after each_at
id-cut order message o n (Ok x) is e = absurd cc
id-cut order message o n (Err f) is e = rw is refl

id-here : (order : Order) (message : List ℕ) (o i p : ℕ) (rest : List ℕ) → value_at ulong order o (drop o message) ≡ Ok (ulong_value i, p, rest) → id_after order message o 0 ≡ Some i
unfolding id_after each_at
id-here order message o i p rest e = rw e refl

id-missing : (order : Order) (message : List ℕ) (o : ℕ) (f : Fault) → value_at ulong order o (drop o message) ≡ Err f → id_after order message o 0 ≡ None
unfolding id_after each_at
id-missing order message o f e = rw e refl

-- a cursor in a message

-- what a cursor reads in a message
stands : (t : Form) (order : Order) (cursor : Position) (message : List ℕ) (r : Read Value) → cursor.order ≡ order → IsAt cursor message → value_at t cursor.order cursor.place cursor.rest ≡ r → value_at t order cursor.place (drop cursor.place message) ≡ r
stands t order cursor message r same here e = ap (λ (o : Order). value_at t o cursor.place (drop cursor.place message)) (sym same) ∙ ap (value_at t cursor.order cursor.place) (sym here.rest) ∙ e

-- service contexts that are passed over

pub went : (r : Result (ℕ × Bor (List ℕ)) Fault) (old new : Position) → is_err r ≡ false → Gives lent_value r (value_at tagged old.order) old new → (v : Value) × (value_at tagged old.order old.place old.rest ≡ Ok (v, new.place, new.rest)) × (new.order ≡ old.order)
went (Ok x) old new e g = (lent_value x, g.0, g.1)
went (Err f) old new e g = absurd cc

pub passes-next : ReadIsSpelled → SpelledIsRead → (start old new : Position) (v : Value) (count left next : ℕ) (message : List ℕ) → old.order ≡ start.order → left ≡ suc next → value_at tagged old.order old.place old.rest ≡ Ok (v, new.place, new.rest)
    → Passes start old count left message → Passes start new count next message
passes-next found only start old new v count left next message same one e p =
    let t = is-there found only tagged start.order old.place message v new.place new.rest p.at.place (stands tagged start.order old message (Ok (v, new.place, new.rest)) same p.at e) in
    record {
      at = record { place = t.place; rest = t.rest };
      same = λ more. sym (id-next start.order (message ++ more) old.place next new.place v (t.same more)) ∙ ap (id_after start.order (message ++ more) old.place) (sym one) ∙ p.same more;
    }

-- a cursor went on from a place of a message
pub record GoesOn (now : Position) (order : Order) (at count left : ℕ) (message : List ℕ) : Type 0 where
  pub ordered : now.order ≡ order
  pub here : IsAt now message
  pub same : (more : List ℕ) → id_after order (message ++ more) now.place left ≡ id_after order (message ++ more) at count

pub goes-on : (start now : Position) (order : Order) (at place count left : ℕ) (octets message : List ℕ) → start ≡ record { order = order; place = place; rest = octets } → place ≡ at → octets ≡ drop at message → at ≤ length message → now.order ≡ start.order
    → ((m : List ℕ) → IsAt start m → Passes start now count left m) → GoesOn now order at count left message
goes-on start now order at place count left octets message is there from within same passes =
    let order-is : start.order ≡ order = ap (λ (x : Position). x.order) is in
    let place-is : start.place ≡ at = ap (λ (x : Position). x.place) is ∙ there in
    let rest-is : start.rest ≡ drop start.place message = ap (λ (x : Position). x.rest) is ∙ from ∙ ap (λ (n : ℕ). drop n message) (sym place-is) in
    let p = passes message (record { place = omega (arith, place-is, within); rest = rest-is }) in
    record { ordered = same ∙ order-is; here = p.at; same = λ more. rw (← order-is, ← place-is) (p.same more) }

-- the id that is found there, or not
module _ (now : Position) (order : Order) (at count left : ℕ) (message : List ℕ) (w : GoesOn now order at count left message) where
  pub found-id : ReadIsSpelled → SpelledIsRead → (new : Position) (i : ℕ) → left ≡ 0 → value_at ulong now.order now.place now.rest ≡ Ok (ulong_value i, new.place, new.rest) → (more : List ℕ) → Some i ≡ id_after order (message ++ more) at count
  found-id found only new i none e more =
      let t = is-there found only ulong order now.place message (ulong_value i) new.place new.rest w.here.place (stands ulong order now message (Ok (ulong_value i, new.place, new.rest)) w.ordered w.here e) in
      sym (id-here order (message ++ more) now.place i new.place (drop new.place (message ++ more)) (t.same more)) ∙ ap (id_after order (message ++ more) now.place) (sym none) ∙ w.same more

  -- of the octets that have come
  now-same : id_after order message now.place left ≡ id_after order message at count
  now-same = subst (λ (m : List ℕ). id_after order m now.place left ≡ id_after order m at count) (append-nil message) (w.same [])

  pub found-id-now : ReadIsSpelled → SpelledIsRead → (new : Position) (i : ℕ) → left ≡ 0 → value_at ulong now.order now.place now.rest ≡ Ok (ulong_value i, new.place, new.rest) → Some i ≡ id_after order message at count
  found-id-now found only new i none e = subst (λ (m : List ℕ). Some i ≡ id_after order m at count) (append-nil message) (found-id found only new i none e [])

  pub id-is-missing : (f : Fault) → left ≡ 0 → value_at ulong now.order now.place now.rest ≡ Err f → None ≡ id_after order message at count
  id-is-missing f none e = sym (id-missing order message now.place f (stands ulong order now message (Err f) w.ordered w.here e)) ∙ ap (id_after order message now.place) (sym none) ∙ now-same

  pub context-is-cut : left ≢ 0 → (0 < left → IsErr (value_at tagged now.order now.place now.rest)) → None ≡ id_after order message at count
  context-is-cut some stops =
      let one : left ≡ suc (left - 1) = omega (arith, some) in
      sym (id-cut order message now.place (left - 1) (value_at tagged now.order now.place now.rest) (stands tagged order now message (value_at tagged now.order now.place now.rest) w.ordered w.here refl) (stops (omega (arith, some)))) ∙ ap (id_after order message now.place) (sym one) ∙ now-same

-- the number of contexts, and on from there

pub begins : ReadIsSpelled → SpelledIsRead → (cursor new : Position) (order : Order) (octets message : List ℕ) (n : ℕ) → cursor ≡ record { order = order; place = 12; rest = octets } → octets ≡ drop 12 message → 12 ≤ length message → value_at ulong cursor.order cursor.place cursor.rest ≡ Ok (ulong_value n, new.place, new.rest) → IsThere ulong order 12 message (ulong_value n) new.place new.rest
begins found only cursor new order octets message n is from long e = is-there found only ulong order 12 message (ulong_value n) new.place new.rest long (rw (← from) (rw is at e))

pub begun : (order : Order) (message left : List ℕ) (n p q : ℕ) (named : Named) → n ≤ most → IsThere ulong order 12 message (ulong_value n) p left → q ≡ p → place_of named ≤ length message → ((more : List ℕ) → id_from order named (message ++ more) ≡ id_after order (message ++ more) q n) → IsReadTo order named message
begun order message left n p q named fits t is within h = record {
  place = within;
  same = λ more.
      h more ∙ ap (λ (k : ℕ). id_after order (message ++ more) k n) is ∙ sym (id-counted order (message ++ more) n p (counted (number_at order 4 12 (drop 12 (message ++ more))) order 12 n p (drop 12 (message ++ more)) (drop p (message ++ more)) fits refl (t.same more)));
}

pub begun-id : (order : Order) (message left : List ℕ) (n p q : ℕ) (named : Named) → n ≤ most → IsThere ulong order 12 message (ulong_value n) p left → q ≡ p → id_read named ≡ id_after order message q n → id_read named ≡ id_in order message
begun-id order message left n p q named fits t is h =
    let here = subst (λ (m : List ℕ). value_at ulong order 12 (drop 12 m) ≡ Ok (ulong_value n, p, drop p m)) (append-nil message) (t.same []) in
    h ∙ ap (λ (k : ℕ). id_after order message k n) is ∙ sym (id-counted order message n p (counted (number_at order 4 12 (drop 12 message)) order 12 n p (drop 12 message) (drop p message) fits refl here))

pub not-begun : (cursor : Position) (order : Order) (octets message : List ℕ) (f : Fault) → cursor ≡ record { order = order; place = 12; rest = octets } → octets ≡ drop 12 message → value_at ulong cursor.order cursor.place cursor.rest ≡ Err f → None ≡ id_in order message
not-begun cursor order octets message f is from e =
    sym (id-uncounted order message f (uncounted (number_at order 4 12 (drop 12 message)) order 12 (drop 12 message) f refl (rw (← from) (rw is at e))))

-- what was read so far gives the id of the octets that have come

pub read-so-far : (order : Order) (named kept : Named) (message : List ℕ) → named ≡ kept → IsReadTo order named message → id_from order kept message ≡ id_in order message
read-so-far order named kept message is r = subst (λ (m : List ℕ). id_from order kept m ≡ id_in order m) (append-nil message) (subst (λ (k : Named). id_from order k (message ++ []) ≡ id_in order (message ++ [])) is (r.same []))
