use Rattle.std.proofs.Common.{◌≡◌, ℕ, ◌&&◌, Bool, true, false, not, List, length, take, drop, Result, Ok, Err, Option, Some, None, refl, sym, ap, ◌∙◌, slice_index, arith}
use Rattle.std.proofs.Math.Seq.{take-length}
use Rattle.std.proofs.lemmas.List.{length-drop}
use Rattle.std.proofs.lemmas.Result.{err_from_is_err_and}
use Rattle.std.specs.Option.{ok_or}
use Rattle.cdr_core.specs.declared.order.Order.{Order}
use Rattle.cdr_core.specs.Numbers.{number_of}
use Rattle.giop_core.specs.declared.header.HeaderFault.{HeaderFault}
use Rattle.giop_core.specs.declared.header.HeaderFault.TheVariants.{BadMagic, BadVersion, BadFlags, BadType, BadCut}
use Rattle.giop_core.specs.declared.header.MessageKind.{MessageKind}
use Rattle.giop_core.specs.declared.header.Version.{Version}
use Rattle.giop_core.specs.Headers.{can_be_cut, flags_of, has_kind, has_magic, header_of, kind_of, of_flags, of_kind, of_version, version_of}
use Rattle.giop_core.proofs.header.Header.read.Goals as goal
use Rattle.giop_core.proofs.header.Header.read.Goals.{else-more-via-then-more+else-not-can_be_cut, else-more-via-else-more}

-- where an option has nothing, the fault in its place
told : {T : Type 0} (d f : HeaderFault) (o : Option T) → ◌≡◌ {A = Result T HeaderFault} (Err d) (ok_or o f) → o ≡ None → d ≡ f
told d f None e n = cc
told d f (Some x) e n = absurd cc

-- the octets of the size
last_four : (octets : List ℕ) → length octets ≡ 12 → take 4 (drop 8 octets) ≡ drop 8 octets
last_four octets n =
    let four : length (drop 8 octets) ≡ 4 = omega (arith, n, length-drop 8 octets) in
    ap (λ k. take k (drop 8 octets)) (sym four) ∙ take-length (drop 8 octets)

whole_is_cut : (more cuts : Bool) → more ≡ false → (more && not cuts) ≡ false
whole_is_cut false cuts e = refl
whole_is_cut true cuts e = absurd cc

cuts_is_cut : (more cuts : Bool) → cuts ≡ true → (more && not cuts) ≡ false
cuts_is_cut false cuts e = refl
cuts_is_cut true true e = refl
cuts_is_cut true false e = absurd cc

-- the header so far, with what each test or octet said
module _ (octets : List ℕ) where
  bad_magic : has_magic octets ≡ false → header_of octets ≡ Err BadMagic
  unfolding header_of
  bad_magic e = rw e refl

  magic : has_magic octets ≡ true → header_of octets ≡ of_version octets (version_of (slice_index octets 4) (slice_index octets 5))
  unfolding header_of
  magic e = rw e refl

  module _ (m : has_magic octets ≡ true) where
    bad_version : version_of (slice_index octets 4) (slice_index octets 5) ≡ None → header_of octets ≡ Err BadVersion
    bad_version e = magic m ∙ ap (of_version octets) e

    module _ (version : Version) (v : version_of (slice_index octets 4) (slice_index octets 5) ≡ Some version) where
      with_version : header_of octets ≡ of_flags octets version (flags_of version (slice_index octets 6))
      with_version = magic m ∙ ap (of_version octets) v

      bad_flags : flags_of version (slice_index octets 6) ≡ None → header_of octets ≡ Err BadFlags
      bad_flags e = with_version ∙ ap (of_flags octets version) e

      module _ (order : Order) (more : Bool) (f : flags_of version (slice_index octets 6) ≡ Some (order, more)) where
        with_flags : header_of octets ≡ of_kind octets version (order, more) (kind_of (slice_index octets 7))
        with_flags = with_version ∙ ap (of_flags octets version) f

        bad_type : kind_of (slice_index octets 7) ≡ None → header_of octets ≡ Err BadType
        bad_type e = with_flags ∙ ap (of_kind octets version (order, more)) e

        module _ (kind : MessageKind) (k : kind_of (slice_index octets 7) ≡ Some kind) where
          with_kind : header_of octets ≡ of_kind octets version (order, more) (Some kind)
          with_kind = with_flags ∙ ap (of_kind octets version (order, more)) k

          no_kind : has_kind version kind ≡ false → header_of octets ≡ Err BadType
          no_kind h = with_kind ∙ rw h refl

          bad_cut : has_kind version kind ≡ true → more ≡ true → can_be_cut version kind ≡ false → header_of octets ≡ Err BadCut
          bad_cut h e cuts = with_kind ∙ rw (h, e, cuts) refl

          read_all : has_kind version kind ≡ true → (more && not (can_be_cut version kind)) ≡ false → (size : ℕ) → size ≡ number_of order 4 (drop 8 octets)
              → header_of octets ≡ Ok (record { version = version; order = order; more = more; kind = kind; size = size })
          read_all h cut size s = with_kind ∙ rw (h, cut, s) refl

pub returns-then-not-has_magic : goal.returns-then-not-has_magic
returns-then-not-has_magic c = sym (bad_magic c.args.octets.now (sym c.has_magic.ensures ∙ c.if-not-has_magic.true))

pub returns-in_err-version : goal.returns-in_err-version
returns-in_err-version c =
    let m = sym c.has_magic.ensures ∙ c.if-not-has_magic.false in
    let p = err_from_is_err_and c.from_residual.result c.from_residual.ensures.1 in
    let e = c.in_err-version.ensures in
    rw (p.1, p.2, told c.in_err-version.field-0.0 BadVersion c.version_of.result e.value e.ok_part) (sym (bad_version c.args.octets.now m (sym c.version_of.ensures ∙ e.ok_part)))

pub returns-in_err-order : goal.returns-in_err-order
returns-in_err-order c =
    let m = sym c.has_magic.ensures ∙ c.if-not-has_magic.false in
    let v = sym c.version_of.ensures ∙ c.in_ok-version.ensures.ok_part in
    let p = err_from_is_err_and c.from_residual-in_err-order.result c.from_residual-in_err-order.ensures.1 in
    let e = c.in_err-order.ensures in
    rw (p.1, p.2, told c.in_err-order.field-0.0 BadFlags c.flags_of.result e.value e.ok_part) (sym (bad_flags c.args.octets.now m c.in_ok-version.version v (sym c.flags_of.ensures ∙ e.ok_part)))

pub returns-in_err-kind : goal.returns-in_err-kind
returns-in_err-kind c =
    let m = sym c.has_magic.ensures ∙ c.if-not-has_magic.false in
    let v = sym c.version_of.ensures ∙ c.in_ok-version.ensures.ok_part in
    let f = sym c.flags_of.ensures ∙ c.in_ok-order.ensures.ok_part in
    let p = err_from_is_err_and c.from_residual-in_err-kind.result c.from_residual-in_err-kind.ensures.1 in
    let e = c.in_err-kind.ensures in
    rw (p.1, p.2, told c.in_err-kind.field-0.0 BadType c.kind_of.result e.value e.ok_part) (sym (bad_type c.args.octets.now m c.in_ok-version.version v c.in_ok-order.order c.in_ok-order.more f (sym c.kind_of.ensures ∙ e.ok_part)))

pub returns-then-not-has_kind : goal.returns-then-not-has_kind
returns-then-not-has_kind c =
    let m = sym c.has_magic.ensures ∙ c.if-not-has_magic.false in
    let v = sym c.version_of.ensures ∙ c.in_ok-version.ensures.ok_part in
    let f = sym c.flags_of.ensures ∙ c.in_ok-order.ensures.ok_part in
    let k = sym c.kind_of.ensures ∙ c.in_ok-kind.ensures.ok_part in
    sym (no_kind c.args.octets.now m c.in_ok-version.version v c.in_ok-order.order c.in_ok-order.more f c.in_ok-kind.kind k (sym c.has_kind.ensures ∙ c.if-not-has_kind.true))

pub returns-then-not-can_be_cut : goal.returns-then-not-can_be_cut
returns-then-not-can_be_cut c =
    let m = sym c.has_magic.ensures ∙ c.if-not-has_magic.false in
    let v = sym c.version_of.ensures ∙ c.in_ok-version.ensures.ok_part in
    let f = sym c.flags_of.ensures ∙ c.in_ok-order.ensures.ok_part in
    let k = sym c.kind_of.ensures ∙ c.in_ok-kind.ensures.ok_part in
    let h = sym c.has_kind.ensures ∙ c.if-not-has_kind.false in
    sym (bad_cut c.args.octets.now m c.in_ok-version.version v c.in_ok-order.order c.in_ok-order.more f c.in_ok-kind.kind k h c.if-more.true (sym c.can_be_cut.ensures ∙ c.if-not-can_be_cut.true))

pub returns : goal.returns
returns c =
    let octets = c.args.octets.now in
    let version = c.in_ok-version.version in
    let order = c.in_ok-order.order in
    let more = c.in_ok-order.more in
    let kind = c.in_ok-kind.kind in
    let m = sym c.has_magic.ensures ∙ c.if-not-has_magic.false in
    let v = sym c.version_of.ensures ∙ c.in_ok-version.ensures.ok_part in
    let f = sym c.flags_of.ensures ∙ c.in_ok-order.ensures.ok_part in
    let k = sym c.kind_of.ensures ∙ c.in_ok-kind.ensures.ok_part in
    let h = sym c.has_kind.ensures ∙ c.if-not-has_kind.false in
    let cut : (more && not (can_be_cut version kind)) ≡ false = elim c.else-more.branch [ else-more-via-then-more+else-not-can_be_cut w ↦ cuts_is_cut more (can_be_cut version kind) (sym w.can_be_cut.ensures ∙ w.if-not-can_be_cut.false) | else-more-via-else-more w ↦ whole_is_cut more (can_be_cut version kind) w.if-more.false ] in
    let size = c.ulong_of.ensures ∙ ap (number_of order 4) (last_four octets c.told-octets) in
    sym (read_all octets m version v order more f kind k h cut c.ulong_of.result size)
