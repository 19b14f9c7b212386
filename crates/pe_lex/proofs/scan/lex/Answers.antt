use Rattle.std.proofs.Common.{◌≡◌, ℕ, ◌+◌, ◌<◌, ◌≤◌, length, List, ◌∷◌, [], ◌++◌, Some, false, drop, get_or, length-drop, sym, ◌∙◌, ap, arith}
use Rattle.std.proofs.lemmas.Grind.{common_steps}
use Rattle.pe_lex.specs.declared.token.Token.{Token}
use Rattle.pe_lex.specs.Forms.{is_white}
use Rattle.pe_lex.specs.Tokens.{longest, tokens_from}
use Rattle.pe_lex.proofs.Reading.{after, after_one, token_on}
use Rattle.pe_lex.proofs.scan.lex.Goals as goal

pub loop-at-preserved : goal.loop-at-preserved
loop-at-preserved c =
    let text : List ℕ = c.as_bytes-bytes.result.now in
    let at : ℕ = c.loop-at.at in
    let n : ℕ = c.in-Some.length in
    let token : Token = record { kind = c.in-Some.kind; start = at; end = at + n } in
    let read = tokens_from 0 (at + n) (drop (at + n) text) in
    let found : longest (drop at text) ≡ Some (c.in-Some.kind, n) = grind (arith, common_steps) in
    let size : 0 < n = grind (arith, common_steps) in
    let fits : n ≤ length (drop at text) = grind (arith, common_steps) in
    let white : is_white (get_or text at 0) ≡ false = grind arith in
    let pushed : c.push.new.self.items ≡ c.loop-at.tokens.items ++ token ∷ [] = grind (arith, common_steps) in
    record {
      within = omega (arith, length-drop at text);
      told = ap (λ (ts : List Token). after ts read) pushed ∙ sym (after_one c.loop-at.tokens.items token read)
          ∙ ap (after c.loop-at.tokens.items) (sym (token_on text at c.in-Some.kind n c.loop-at-test.true white found size fits))
          ∙ c.loop-at.invariant.told;
    }
