-- A piece may be cut: two pieces of a connection at one moment, one after the other, count as one piece of their octets.
use Rattle.std.proofs.Common.{◌≡◌, ◌==◌, ℕ, suc, max, Bool, true, false, if◌then◌else◌, List, [], ◌∷◌, ◌++◌, length, Option, Some, None, Result, refl, sym, ap, ◌∙◌, arith, append_assoc}
use Rattle.std.proofs.lemmas.List.{append-nil}
use Rattle.giop_frames.specs.declared.limits.Limits.{Limits}
use Rattle.giop_link.specs.Hearing.{Ending, ending, meaning_in}
use Rattle.giop_link.specs.Laws.{EndingsStay, EndsAreSilent, HearingGrows}
use Rattle.ft_log.specs.Performed.{Performed}
use Rattle.ft_log.specs.declared.system_exception.SystemName.{SystemName}
use Rattle.ft_orb.specs.ExactlyOnce.{Arrival, Rules, answers_after}
use Rattle.ft_orb.specs.History.{Event, Gone, Line, Piece, Shut, Up, arrivals, arrivals_in, arrivals_on, clock, completed, line, longer, origin}
use Rattle.ft_orb.specs.Laws.{CutPiecesWriteTheSame, PiecesMayBeCut}
use Rattle.ft_orb.specs.Outputs.{law_says, output_by, table_of_past, table_says}
use Rattle.ft_orb.specs.Private.{error_at}
use Rattle.ft_orb.specs.Requests.{Wanted, rules_of, Origin}
use Rattle.ft_objects.specs.Servants.{Meaning}
use Rattle.ft_orb.specs.Table.{Table, table_after, table_answers}
use Rattle.ft_orb.specs.Tellings.{Teller, answer_told, rendered}
use Rattle.ft_orb.proofs.Folded.{answers_after-append, table_after-append, table_answers-append, table_answers-length}
use Rattle.ft_orb.proofs.Hearing.{arrivals_in-by, arrivals_in-ended, arrivals_in-message}
use Rattle.ft_orb.proofs.Pieces.{same-by}
use Rattle.ft_orb.proofs.Told.{error_on, output-is, rendered-append}

longer-twice : (x y : List ℕ) (l : Line) → longer y (longer x l) ≡ longer (x ++ y) l
longer-twice x y Gone = refl
longer-twice x y Shut = refl
longer-twice x y (Up s) = ap (λ (t : List ℕ). Up t) (append_assoc s x y)

-- as many answers as arrivals
module _ {S C K O : Type 0} (rules : Rules S C K O) where
  answers_after-length : (opening : S) (before xs : List (Arrival C)) → length (answers_after rules opening before xs) ≡ length xs
  answers_after-length opening before [] = refl
  answers_after-length opening before (x ∷ xs) = ap suc (answers_after-length opening (before ++ x ∷ []) xs)

module _ (limits : Limits) (c : Origin) (x y : List ℕ) where
  pub on-cut : HearingGrows meaning_in → (now : ℕ) (l : Line) → arrivals_on limits c now l (x ++ y) ≡ arrivals_on limits c now l x ++ arrivals_on limits c now (longer x l) y
  on-cut grow now Gone = refl
  on-cut grow now Shut = refl
  on-cut grow now (Up s) =
      let g = grow limits (s ++ x) y in
      arrivals_in-message limits c now grow s x y g.0 g.1 ∙ ap (λ (l : List (Arrival Wanted)). arrivals_in limits c now s x ++ l) (sym (arrivals_in-by limits c now (s ++ x) y g.0 g.1))

module _ (limits : Limits) (past : List Event) (c moment : ℕ) (x y : List ℕ) where
  abbrev pub First : List Event
  First = Piece c moment x ∷ past

  pub now-same : max (clock First) moment ≡ max (clock past) moment
  now-same = omega arith

  pub line-here : line First c ≡ longer x (line past c)
  line-here = same-by c (longer x (line past c)) (line past c)

  second-is : completed limits First (Piece c moment y) ≡ arrivals_on limits (origin past c) (max (clock past) moment) (longer x (line past c)) y
  second-is = λ i. arrivals_on limits (origin past c) (now-same i) (line-here i) y

  pub completed-cut : HearingGrows meaning_in → completed limits past (Piece c moment (x ++ y)) ≡ completed limits past (Piece c moment x) ++ completed limits First (Piece c moment y)
  completed-cut grow = on-cut limits (origin past c) x y grow (max (clock past) moment) (line past c) ∙ ap (λ (l : List (Arrival Wanted)). completed limits past (Piece c moment x) ++ l) (sym second-is)

  arrivals-cut : HearingGrows meaning_in → arrivals limits (Piece c moment y ∷ First) ≡ arrivals limits (Piece c moment (x ++ y) ∷ past)
  arrivals-cut grow =
      append_assoc (arrivals limits past) (completed limits past (Piece c moment x)) (completed limits First (Piece c moment y)) ∙ ap (λ (l : List (Arrival Wanted)). arrivals limits past ++ l) (sym (completed-cut grow))

  lines-cut : (d : ℕ) → line (Piece c moment y ∷ First) d ≡ line (Piece c moment (x ++ y) ∷ past) d
  lines-cut d =
      let l = line past d in
      elim (c == d) as (λ (b : Bool). (if b then longer y (if b then longer x l else l) else (if b then longer x l else l)) ≡ (if b then longer (x ++ y) l else l))
      [ true ↦ longer-twice x y l | false ↦ refl ]

  -- what comes after the end of a stream brings nothing
  silent-second : EndsAreSilent meaning_in → (now : ℕ) (s : List ℕ) (e : Ending) → ending limits (s ++ x) ≡ Some e → arrivals_on limits (origin past c) now (longer x (Up s)) y ≡ []
  silent-second silent now s e is = arrivals_in-ended limits (origin past c) now silent (s ++ x) y e is

  -- the answers of both, and mid-is MessageError where it is due
  up-errors : EndingsStay meaning_in → (s before more : List ℕ) (was mid : Option Ending) → ending limits s ≡ was → ending limits (s ++ x) ≡ mid → ((e : Ending) → mid ≡ Some e → more ≡ [])
      → (before ++ more) ++ error_on limits (Up s) (x ++ y) ≡ (before ++ error_on limits (Up s) x) ++ (more ++ error_on limits (Up (s ++ x)) y)
  up-errors stays s before more (Some e) mid at mid-is none =
      let first : error_on limits (Up s) x ≡ [] = ap (λ (o : Option Ending). error_at o (ending limits (s ++ x))) at in
      let second : error_on limits (Up (s ++ x)) y ≡ [] = ap (λ (o : Option Ending). error_at o (ending limits ((s ++ x) ++ y))) (stays limits s x e at) in
      let both : error_on limits (Up s) (x ++ y) ≡ [] = ap (λ (o : Option Ending). error_at o (ending limits (s ++ (x ++ y)))) at in
      ap (λ (l : List ℕ). (before ++ more) ++ l) both ∙ append-nil (before ++ more)
      ∙ sym (ap (λ (l : List ℕ). (before ++ l) ++ (more ++ error_on limits (Up (s ++ x)) y)) first ∙ ap (λ (l : List ℕ). l ++ (more ++ error_on limits (Up (s ++ x)) y)) (append-nil before)
      ∙ ap (λ (l : List ℕ). before ++ (more ++ l)) second ∙ ap (λ (l : List ℕ). before ++ l) (append-nil more))
  up-errors stays s before more None None at mid-is none =
      let first : error_on limits (Up s) x ≡ [] = (λ i. error_at (at i) (mid-is i)) in
      let second : error_on limits (Up (s ++ x)) y ≡ error_on limits (Up s) (x ++ y) =
      ap (λ (o : Option Ending). error_at o (ending limits ((s ++ x) ++ y))) mid-is ∙ ap (λ (l : List ℕ). error_at None (ending limits l)) (append_assoc s x y) ∙ sym (ap (λ (o : Option Ending). error_at o (ending limits (s ++ (x ++ y)))) at) in
      append_assoc before more (error_on limits (Up s) (x ++ y))
      ∙ sym (ap (λ (l : List ℕ). (before ++ l) ++ (more ++ error_on limits (Up (s ++ x)) y)) first ∙ ap (λ (l : List ℕ). l ++ (more ++ error_on limits (Up (s ++ x)) y)) (append-nil before)
      ∙ ap (λ (l : List ℕ). before ++ (more ++ l)) second)
  up-errors stays s before more None (Some e) at mid-is none =
      let gone = none e refl in
      let second : error_on limits (Up (s ++ x)) y ≡ [] = ap (λ (o : Option Ending). error_at o (ending limits ((s ++ x) ++ y))) mid-is in
      let stayed : ending limits (s ++ (x ++ y)) ≡ ending limits (s ++ x) = ap (λ (l : List ℕ). ending limits l) (sym (append_assoc s x y)) ∙ stays limits (s ++ x) y e mid-is ∙ sym mid-is in
      let both : error_on limits (Up s) (x ++ y) ≡ error_on limits (Up s) x = ap (λ (o : Option Ending). error_at (ending limits s) o) stayed in
      ap (λ (l : List ℕ). (before ++ l) ++ error_on limits (Up s) (x ++ y)) gone ∙ ap (λ (l : List ℕ). l ++ error_on limits (Up s) (x ++ y)) (append-nil before) ∙ ap (λ (l : List ℕ). before ++ l) both
      ∙ sym (ap (λ (l : List ℕ). (before ++ error_on limits (Up s) x) ++ (l ++ error_on limits (Up (s ++ x)) y)) gone ∙ ap (λ (l : List ℕ). (before ++ error_on limits (Up s) x) ++ l) second ∙ append-nil (before ++ error_on limits (Up s) x))

  errors-cut : EndingsStay meaning_in → (l : Line) (before more : List ℕ) → ((s : List ℕ) (e : Ending) → l ≡ Up s → ending limits (s ++ x) ≡ Some e → more ≡ [])
      → (before ++ more) ++ error_on limits l (x ++ y) ≡ (before ++ error_on limits l x) ++ (more ++ error_on limits (longer x l) y)
  errors-cut stays Gone before more none = append-nil (before ++ more) ∙ sym (ap (λ (l : List ℕ). l ++ (more ++ [])) (append-nil before) ∙ ap (λ (l : List ℕ). before ++ l) (append-nil more))
  errors-cut stays Shut before more none = append-nil (before ++ more) ∙ sym (ap (λ (l : List ℕ). l ++ (more ++ [])) (append-nil before) ∙ ap (λ (l : List ℕ). before ++ l) (append-nil more))
  errors-cut stays (Up s) before more none = up-errors stays s before more (ending limits s) (ending limits (s ++ x)) refl refl (λ e is. none s e refl is)

  module _ {Outcome : Type 0} (tell : Teller Outcome) (answers : List Event → Event → List (Result Outcome SystemName)) where
    output-cut : HearingGrows meaning_in → EndingsStay meaning_in → EndsAreSilent meaning_in → answers past (Piece c moment (x ++ y)) ≡ answers past (Piece c moment x) ++ answers First (Piece c moment y) → length (answers past (Piece c moment x)) ≡ length (completed limits past (Piece c moment x))
        → output_by limits tell answers past (Piece c moment (x ++ y)) ≡ output_by limits tell answers past (Piece c moment x) ++ output_by limits tell answers First (Piece c moment y)
    output-cut grow stays silent says size =
        let before = rendered tell (completed limits past (Piece c moment x)) (answers past (Piece c moment x)) in
        let more = rendered tell (completed limits First (Piece c moment y)) (answers First (Piece c moment y)) in
        let both : rendered tell (completed limits past (Piece c moment (x ++ y))) (answers past (Piece c moment (x ++ y))) ≡ before ++ more =
        (λ i. rendered tell (completed-cut grow i) (says i)) ∙ rendered-append tell (completed limits past (Piece c moment x)) (completed limits First (Piece c moment y)) (answers past (Piece c moment x)) (answers First (Piece c moment y)) size in
        output-is limits tell answers past (Piece c moment (x ++ y)) ∙ ap (λ (l : List ℕ). l ++ error_on limits (line past c) (x ++ y)) both
        ∙ errors-cut stays (line past c) before more (λ s e up is.
        let none : completed limits First (Piece c moment y) ≡ [] = second-is ∙ ap (λ (l : Line). arrivals_on limits (origin past c) (max (clock past) moment) (longer x l) y) up ∙ silent-second silent (max (clock past) moment) s e is in
        ap (λ (l : List (Arrival Wanted)). rendered tell l (answers First (Piece c moment y))) none)
        ∙ ap (λ (l : Line). (before ++ error_on limits (line past c) x) ++ (more ++ error_on limits l y)) (sym line-here)
        ∙ sym (λ i. output-is limits tell answers past (Piece c moment x) i ++ output-is limits tell answers First (Piece c moment y) i)

pub pieces-may-be-cut : HearingGrows meaning_in → PiecesMayBeCut
pieces-may-be-cut grow limits past c moment x y = (arrivals-cut limits past c moment x y grow, now-same limits past c moment x y, refl, lines-cut limits past c moment x y)

pub cut-pieces-write : HearingGrows meaning_in → EndingsStay meaning_in → EndsAreSilent meaning_in → {State : Type 0} (meaning : Meaning State) → CutPiecesWriteTheSame meaning
cut-pieces-write grow stays silent {State} meaning made past c moment x y =
    let rules = rules_of meaning made.capacity made.share in
    let first : List Event = Piece c moment x ∷ past in
    let a = completed made.limits past (Piece c moment x) in
    let b = completed made.limits first (Piece c moment y) in
    let t = table_of_past meaning made past in
    let cut = completed-cut made.limits past c moment x y grow in
    let table : table_of_past meaning made first ≡ table_after rules t a = table_after-append rules (record { state = made.opening; entries = [] }) (arrivals made.limits past) a in (
      output-cut made.limits past c moment x y (answer_told meaning.knows) (table_says meaning made) grow stays silent
          (ap (λ (l : List (Arrival Wanted)). table_answers rules t l) cut ∙ table_answers-append rules t a b ∙ ap (λ (u : Table State Performed). table_answers rules t a ++ table_answers rules u b) (sym table))
          (table_answers-length rules t a),
      output-cut made.limits past c moment x y (answer_told meaning.knows) (law_says meaning made) grow stays silent
          (ap (λ (l : List (Arrival Wanted)). answers_after rules made.opening (arrivals made.limits past) l) cut ∙ answers_after-append rules made.opening (arrivals made.limits past) a b)
          (answers_after-length rules made.opening (arrivals made.limits past) a),
    )
