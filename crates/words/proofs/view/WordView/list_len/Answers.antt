use Rattle.std.proofs.Common.{◌≡◌, ◌/◌, drop, ap, ◌∙◌, rules}
use Rattle.std.specs.Option.{option_map}
use Rattle.word_layout.specs.Views.{list_view}
use Rattle.word_layout.proofs.Sights.{seen_length}
use Rattle.words.proofs.view.WordView.list_len.Goals as goal

pub returns : goal.returns
returns g c =
    let e : c.map.result ≡ option_map (λ h. h / 8) c.list_head.result = search rules in
    e ∙ (ap (option_map (λ h. h / 8)) c.list_head.ensures ∙ seen_length (list_view g.E.Element.of g.E.Element.mark) (drop c.args.at.0 c.args.self.now.words.now))
