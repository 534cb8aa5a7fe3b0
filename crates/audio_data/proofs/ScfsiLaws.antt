-- Three indices agree with the sharing exactly where they come back from those that travel; as many travel as the scfsi says; whether they agree. By the four codes.
use mathlib.Core.Path.{◌≡◌, refl, sym, ap, ap₂, ◌∙◌}
use mathlib.Core.Bool.{true, ◌&&◌}
use lib.Dec.{eqb}
use lib.ListN.{length}
use borrow.Author.Tests.{eqb-true, eq-eqb}
use Rattle.tables.proofs.Rule.{both_true}
use Rattle.audio_data.specs.declared.Scfsi.{Scfsi}
use Rattle.audio_data.specs.declared.Scfsi.TheVariants.{ThreePerGranule, Share01Then2, ShareAll, Share0Then12}
use Rattle.audio_data.specs.Scfsi.{Three, three, Agrees, agreeing, sent, restored, parts_of, code_of, of_code}

pub comes_back : (s : Scfsi) (t : Three) → Agrees s t → restored s (sent s t) ≡ t
comes_back ThreePerGranule t h = refl
comes_back Share01Then2 t h = λ i. three t.first (h i) t.third
comes_back ShareAll t h = λ i. three t.first (h.0 i) ((h.0 ∙ h.1) i)
comes_back Share0Then12 t h = λ i. three t.first (sym h i) t.third

-- and where the three come back, they agree
pub back_agrees : (s : Scfsi) (t : Three) → restored s (sent s t) ≡ t → Agrees s t
back_agrees ThreePerGranule t e = tt
back_agrees Share01Then2 t e = ap (λ (u : Three). u.second) e
back_agrees ShareAll t e = (ap (λ (u : Three). u.second) e, sym (ap (λ (u : Three). u.second) e) ∙ ap (λ (u : Three). u.third) e)
back_agrees Share0Then12 t e = sym (ap (λ (u : Three). u.second) e)

pub sent_count : (s : Scfsi) (t : Three) → length (sent s t) ≡ parts_of s
sent_count ThreePerGranule t = refl
sent_count Share01Then2 t = refl
sent_count ShareAll t = refl
sent_count Share0Then12 t = refl

-- each scfsi is its code's
pub of_code_lem : (s : Scfsi) → of_code (code_of s) ≡ s
of_code_lem ThreePerGranule = refl
of_code_lem Share01Then2 = refl
of_code_lem ShareAll = refl
of_code_lem Share0Then12 = refl

-- the test of agreement, both ways
pub agreeing_true : (s : Scfsi) (t : Three) → agreeing s t ≡ true → Agrees s t
agreeing_true ThreePerGranule t e = tt
agreeing_true Share01Then2 t e = eqb-true t.first t.second e
agreeing_true ShareAll t e =
    let b = both_true (eqb t.first t.second) (eqb t.second t.third) e in (eqb-true t.first t.second b.0, eqb-true t.second t.third b.1)
agreeing_true Share0Then12 t e = eqb-true t.second t.third e

pub agrees_true : (s : Scfsi) (t : Three) → Agrees s t → agreeing s t ≡ true
agrees_true ThreePerGranule t h = refl
agrees_true Share01Then2 t h = eq-eqb t.first t.second h
agrees_true ShareAll t h = ap₂ ◌&&◌ (eq-eqb t.first t.second h.0) (eq-eqb t.second t.third h.1)
agrees_true Share0Then12 t h = eq-eqb t.second t.third h
