use Rattle.std.proofs.Common.{◌≡◌, ◌<◌, ◌∷◌, [], None, length, get_or, sym, ◌∙◌, arith}
use Rattle.pe_lex.specs.Forms.{kind_of}
use Rattle.pe_lex.proofs.Fronts.{double_longest, single_longest, none_longest}
use Rattle.pe_lex.proofs.forms.sign_at.Goals as goal
use Rattle.pe_lex.proofs.forms.sign_at.Goals.{then-bytes-gt1+in_default, else-bytes-gt1}

pub returns-in-Some : goal.returns-in-Some
returns-in-Some c =
    sym (double_longest c.args.bytes.now c.in-Some.kind c.if-bytes-gt1.true c.requires.letter c.requires.digit
    (sym c.double_sign.ensures ∙ c.in-Some.is))

pub returns-in-Some-single_sign : goal.returns-in-Some-single_sign
returns-in-Some-single_sign c =
    let double : 1 < length c.args.bytes.now → kind_of (get_or c.args.bytes.now 0 0 ∷ get_or c.args.bytes.now 1 0 ∷ []) ≡ None =
    elim c.if-bytes-gt1.branch [ then-bytes-gt1+in_default w ↦ λ _. grind arith | else-bytes-gt1 w ↦ λ h. absurd (omega arith) ] in
    sym (single_longest c.args.bytes.now c.in-Some-single_sign.kind c.requires.some c.requires.letter c.requires.digit double
    (sym c.single_sign.ensures ∙ c.in-Some-single_sign.is))

pub returns-in-None : goal.returns-in-None
returns-in-None c =
    let double : 1 < length c.args.bytes.now → kind_of (get_or c.args.bytes.now 0 0 ∷ get_or c.args.bytes.now 1 0 ∷ []) ≡ None =
    elim c.if-bytes-gt1.branch [ then-bytes-gt1+in_default w ↦ λ _. grind arith | else-bytes-gt1 w ↦ λ h. absurd (omega arith) ] in
    sym (none_longest c.args.bytes.now c.requires.some c.requires.letter c.requires.digit double (sym c.single_sign.ensures ∙ c.in-None.is))
