use Rattle.std.proofs.Common.{take, sym, ap, ◌∙◌, rules}
use Rattle.cdr_core.specs.declared.values.Val.{the_lemmas}
use Rattle.cdr_core.specs.Form as form
use Rattle.cdr_core.specs.Numbers.{number_of}
use Rattle.cdr_core.specs.Private.{basic_form, basic_size}
use Rattle.cdr_core.proofs.Here.{boolean_here, ordinal_here, whole_here}
use Rattle.cdr_core.proofs.basic.Basic.value.Goals as goal

pub returns-in-Boolean : goal.returns-in-Boolean
returns-in-Boolean c p none =
    let a = c.args in
    let n = ap basic_size c.in-Boolean.is in
    let is = c.octet_of.ensures ∙ ap (λ n. number_of a.order 1 (take n a.octets.now)) c.size.ensures.is ∙ ap (λ n. number_of a.order n (take (basic_size a.self) a.octets.now)) (sym n) in
    boolean_here a.self a.order p c.octet_of.result a.octets.now c.requires none is c.boolean.result (ap basic_form c.in-Boolean.is) n c.boolean.ensures

pub returns-in-Char : goal.returns-in-Char
returns-in-Char c p none =
    let a = c.args in
    let n = ap basic_size c.in-Char.is in
    let is = c.octet_of-in-Char.ensures ∙ ap (λ n. number_of a.order 1 (take n a.octets.now)) c.size.ensures.is ∙ ap (λ n. number_of a.order n (take (basic_size a.self) a.octets.now)) (sym n) in
    whole_here a.self a.order p c.octet_of-in-Char.result a.octets.now c.requires none is form.char _ (ap basic_form c.in-Char.is) n (search (rules, the_lemmas))

pub returns-in-Octet : goal.returns-in-Octet
returns-in-Octet c p none =
    let a = c.args in
    let n = ap basic_size c.in-Octet.is in
    let is = c.octet_of-in-Octet.ensures ∙ ap (λ n. number_of a.order 1 (take n a.octets.now)) c.size.ensures.is ∙ ap (λ n. number_of a.order n (take (basic_size a.self) a.octets.now)) (sym n) in
    whole_here a.self a.order p c.octet_of-in-Octet.result a.octets.now c.requires none is form.octet _ (ap basic_form c.in-Octet.is) n (search (rules, the_lemmas))

pub returns-in-Short : goal.returns-in-Short
returns-in-Short c p none =
    let a = c.args in
    let n = ap basic_size c.in-Short.is in
    let is = c.ushort_of.ensures ∙ ap (λ n. number_of a.order 2 (take n a.octets.now)) c.size.ensures.is ∙ ap (λ n. number_of a.order n (take (basic_size a.self) a.octets.now)) (sym n) in
    whole_here a.self a.order p c.ushort_of.result a.octets.now c.requires none is form.short _ (ap basic_form c.in-Short.is) n (search (rules, the_lemmas))

pub returns-in-UShort : goal.returns-in-UShort
returns-in-UShort c p none =
    let a = c.args in
    let n = ap basic_size c.in-UShort.is in
    let is = c.ushort_of-in-UShort.ensures ∙ ap (λ n. number_of a.order 2 (take n a.octets.now)) c.size.ensures.is ∙ ap (λ n. number_of a.order n (take (basic_size a.self) a.octets.now)) (sym n) in
    whole_here a.self a.order p c.ushort_of-in-UShort.result a.octets.now c.requires none is form.ushort _ (ap basic_form c.in-UShort.is) n (search (rules, the_lemmas))

pub returns-in-Long : goal.returns-in-Long
returns-in-Long c p none =
    let a = c.args in
    let n = ap basic_size c.in-Long.is in
    let is = c.ulong_of.ensures ∙ ap (λ n. number_of a.order 4 (take n a.octets.now)) c.size.ensures.is ∙ ap (λ n. number_of a.order n (take (basic_size a.self) a.octets.now)) (sym n) in
    whole_here a.self a.order p c.ulong_of.result a.octets.now c.requires none is form.long _ (ap basic_form c.in-Long.is) n (search (rules, the_lemmas))

pub returns-in-ULong : goal.returns-in-ULong
returns-in-ULong c p none =
    let a = c.args in
    let n = ap basic_size c.in-ULong.is in
    let is = c.ulong_of-in-ULong.ensures ∙ ap (λ n. number_of a.order 4 (take n a.octets.now)) c.size.ensures.is ∙ ap (λ n. number_of a.order n (take (basic_size a.self) a.octets.now)) (sym n) in
    whole_here a.self a.order p c.ulong_of-in-ULong.result a.octets.now c.requires none is form.ulong _ (ap basic_form c.in-ULong.is) n (search (rules, the_lemmas))

pub returns-in-LongLong : goal.returns-in-LongLong
returns-in-LongLong c p none =
    let a = c.args in
    let n = ap basic_size c.in-LongLong.is in
    let is = c.ulonglong_of.ensures ∙ ap (λ n. number_of a.order 8 (take n a.octets.now)) c.size.ensures.is ∙ ap (λ n. number_of a.order n (take (basic_size a.self) a.octets.now)) (sym n) in
    whole_here a.self a.order p c.ulonglong_of.result a.octets.now c.requires none is form.longlong _ (ap basic_form c.in-LongLong.is) n (search (rules, the_lemmas))

pub returns-in-ULongLong : goal.returns-in-ULongLong
returns-in-ULongLong c p none =
    let a = c.args in
    let n = ap basic_size c.in-ULongLong.is in
    let is = c.ulonglong_of-in-ULongLong.ensures ∙ ap (λ n. number_of a.order 8 (take n a.octets.now)) c.size.ensures.is ∙ ap (λ n. number_of a.order n (take (basic_size a.self) a.octets.now)) (sym n) in
    whole_here a.self a.order p c.ulonglong_of-in-ULongLong.result a.octets.now c.requires none is form.ulonglong _ (ap basic_form c.in-ULongLong.is) n (search (rules, the_lemmas))

pub returns-in-Enum : goal.returns-in-Enum
returns-in-Enum c p none =
    let a = c.args in
    let n = ap basic_size c.in-Enum.is in
    let is = c.ulong_of-in-Enum.ensures ∙ ap (λ n. number_of a.order 4 (take n a.octets.now)) c.size.ensures.is ∙ ap (λ n. number_of a.order n (take (basic_size a.self) a.octets.now)) (sym n) in
    ordinal_here a.self a.order p c.ulong_of-in-Enum.result a.octets.now c.requires none is c.in-Enum.names c.ordinal.result (ap basic_form c.in-Enum.is) n c.ordinal.ensures
