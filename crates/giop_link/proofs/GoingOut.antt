-- Which messages can go out.
use Rattle.std.proofs.Common.{◌≡◌, ℕ, List, [], refl, ap, arith}
use Rattle.cdr_core.specs.declared.order.Order.{Order}
use Rattle.cdr_core.specs.declared.order.Order.TheVariants.{Big, Little}
use Rattle.cdr_core.specs.Value.{no_values}
use Rattle.giop_core.specs.declared.header.Version.{Version}
use Rattle.giop_core.specs.declared.header.Version.TheVariants.{V10, V11, V12}
use Rattle.giop_core.specs.Content as content
use Rattle.giop_core.specs.Content.{Rest, by_key}
use Rattle.giop_core.specs.Laws.{CancelsHaveOneSize, LocateRepliesHaveOneSize, RepliesHaveOneSize, WrittenRequestCarriesFt}
use Rattle.giop_core.specs.Written.{CanAddress}
use Rattle.giop_link.specs.Laws.{CancelsGoOut, FarewellsGoOut, LocateRepliesGoOut, RepliesGoOut, RequestsGoOut}
use Rattle.giop_link.specs.Outgoing.{said_in}

by-its-key : (version : Version) (key : List ℕ) → CanAddress version (by_key key)
by-its-key V10 key = tt
by-its-key V11 key = tt
by-its-key V12 key = tt

pub requests-go-out : WrittenRequestCarriesFt → RequestsGoOut
requests-go-out carries version order id wish key operation client_id retention_id expiration rest body small can clean client fits moment size = (
  record {
    takes = (small, can, by-its-key version key, tt, clean, (omega arith, tt));
    whole = λ e. absurd cc;
    size = size;
  },
  carries version order id wish (by_key key) operation client_id retention_id expiration body client fits moment size,
)

pub cancels-go-out : CancelsHaveOneSize → CancelsGoOut
cancels-go-out one version order id body small = record { takes = small; whole = λ e. absurd cc; size = omega (arith, one version order id) }

pub replies-go-out : RepliesHaveOneSize → RepliesGoOut
replies-go-out one version order id status rest body small known size =
    let r = one version order id status body in (
      record { takes = (small, known, tt); whole = λ e. absurd cc; size = omega (arith, r.0, size) },
      ap (λ (x : Rest). content.reply id status [] x) r.1,
    )

locate-place : (version : Version) (order : Order) (id status : ℕ) (rest : Rest) → said_in version order (content.locate_reply id status rest) no_values ≡ content.locate_reply id status (record { order = order; place = 20; octets = [] })
locate-place V10 Big id status rest = refl
locate-place V10 Little id status rest = refl
locate-place V11 Big id status rest = refl
locate-place V11 Little id status rest = refl
locate-place V12 Big id status rest = refl
locate-place V12 Little id status rest = refl

pub locate-replies-go-out : LocateRepliesHaveOneSize → LocateRepliesGoOut
locate-replies-go-out one version order id status rest small known =
    (record { takes = (small, known); whole = λ e. absurd cc; size = omega (arith, one version order id status) }, locate-place version order id status rest)

pub farewells-go-out : FarewellsGoOut
farewells-go-out version order body = (record { takes = tt; whole = λ e. absurd cc; size = omega arith }, record { takes = tt; whole = λ e. absurd cc; size = omega arith })
