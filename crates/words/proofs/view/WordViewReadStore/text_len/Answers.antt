use Rattle.std.proofs.Common.{◌≡◌, ◌/◌, drop, ap, ◌∙◌, rules}
use Rattle.std.specs.Option.{option_map}
use Rattle.word_layout.specs.Views.{text_view}
use Rattle.word_layout.proofs.Sights.{seen_length}
use Rattle.words.proofs.view.WordViewReadStore.text_len.Goals as goal

pub returns : goal.returns
returns c =
    let e : c.map.result ≡ option_map (λ h. h / 8) c.text_head.result = search rules in
    e ∙ (ap (option_map (λ h. h / 8)) c.text_head.ensures ∙ seen_length text_view (drop c.args.at.0 c.args.self.now.words.now))
