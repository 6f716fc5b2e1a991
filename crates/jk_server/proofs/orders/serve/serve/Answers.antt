use Rattle.std.proofs.Common.{inr, refl, ◌∙◌}
use Rattle.site_reports.specs.Found.{refusing_line}
use Rattle.site_reports.proofs.SiteLaws.{refused_by_line}
use Rattle.jk_server.specs.Commands.{Accepted, Formatted, NoFormat, Refused, Served, Undone, Unformatted, Unformed}
use Rattle.jk_server.proofs.CommandLaws.{refused_hands_on, shown_side, unread, unread_hands_on}
use Rattle.jk_server.proofs.orders.serve.serve.Goals as goal

-- ---- a format that was read: the site, or what is wrong with its files

pub returns-in-Ok-Site-clause-serves : goal.returns-in-Ok-Site-clause-serves
returns-in-Ok-Site-clause-serves g c =
    let site = c.in-Ok-Site.site in
    let shown = c.show_site.ensures in
    rw c.none_refused-in-Ok-Site.ensures.0 (λ incoming.
    Formatted c.in-Ok.format (rw c.format_text.ensures at c.in-Ok.ensures.ok)
    (Served (record {
      site = site;
      is = rw c.in-Ok-Site.field-0-is at (c.in-Ok-Site.ensures.ok incoming);
      read = c.in-Ok-Site.ensures.steady refl;
      shown = c.serve_site.ensures.unshown ∙ shown.shown;
      works = rw (shown_side _ _ site shown.same.0 shown.same.1 shown.same.2 shown.shown shown.steady) at c.serve_site.ensures.works;
      output = (refl, refl);
    })))

pub returns-in-Ok-Site-clause-refused : goal.returns-in-Ok-Site-clause-refused
returns-in-Ok-Site-clause-refused g c =
    rw c.none_refused-in-Ok-Site.ensures.1 (λ incoming. Accepted c.in-Ok-Site.site (rw c.in-Ok-Site.field-0-is at (c.in-Ok-Site.ensures.ok incoming)))

pub returns-in-Ok-Refused-clause-serves : goal.returns-in-Ok-Refused-clause-serves
returns-in-Ok-Refused-clause-serves g c =
    λ incoming.
    Formatted c.in-Ok.format (rw c.format_text.ensures at c.in-Ok.ensures.ok)
    (Refused (record {
      line = refusing_line c.in-Ok-Refused.refused;
      refused = refused_by_line _ _ _ c.in-Ok-Refused.refused (rw c.in-Ok-Refused.field-0-is at (c.in-Ok-Refused.ensures.ok incoming));
      written = c.refuse_site-end.ensures;
      read = c.in-Ok-Refused.ensures.steady refl;
      world = refl;
    }))

pub returns-in-Ok-Refused-clause-refused : goal.returns-in-Ok-Refused-clause-refused
returns-in-Ok-Refused-clause-refused g c =
    λ incoming. refused_hands_on _ _ _ _ _ _ _ c.in-Ok-Refused.refused (rw c.in-Ok-Refused.field-0-is at (c.in-Ok-Refused.ensures.ok incoming))

pub returns-clause-serves : goal.returns-clause-serves
returns-clause-serves g c =
    rw c.none_refused-in-Err.ensures.0 (λ incoming.
    Formatted c.in-Ok.format (rw c.format_text.ensures at c.in-Ok.ensures.ok)
    (unread _ _ _ _ _ _ _ _ _ c.in-Err.error _ c.in-Err.ensures.cause c.end_by.ensures (refl, refl) refl))

pub returns-clause-refused : goal.returns-clause-refused
returns-clause-refused g c =
    λ incoming.
    unread_hands_on _ _ _ _ _ _ c.in-Err.error _ _ c.in-Err.ensures.cause (c.none_refused-in-Err.ensures.0 ∙ c.end_by.ensures) (refl, refl) refl
    c.none_refused-in-Err.ensures.1

-- ---- a format that wasn't

pub returns-in-Err-BadFormat-clause-serves : goal.returns-in-Err-BadFormat-clause-serves
returns-in-Err-BadFormat-clause-serves g c =
    rw c.none_refused.ensures.0 (λ incoming.
    Unformatted (record {
      at = c.in-Err-BadFormat.at;
      refused = rw c.in-Err-BadFormat.field-0-is at (rw c.format_text.ensures at c.in-Err-BadFormat.ensures.refused);
      written = c.refuse_format.ensures;
      unread = refl;
      world = refl;
    }))

pub returns-in-Err-BadFormat-clause-refused : goal.returns-in-Err-BadFormat-clause-refused
returns-in-Err-BadFormat-clause-refused g c =
    rw c.none_refused.ensures.1 (λ incoming.
    Unformed c.in-Err-BadFormat.at (rw c.in-Err-BadFormat.field-0-is at (rw c.format_text.ensures at c.in-Err-BadFormat.ensures.refused)))

pub returns-in-Err-NoMemory-clause-serves : goal.returns-in-Err-NoMemory-clause-serves
returns-in-Err-NoMemory-clause-serves g c =
    rw c.none_refused-in-Err-NoMemory.ensures.0 (λ incoming. NoFormat (record { status = refl; unread = refl; output = (refl, refl); world = refl }))

pub returns-in-Err-NoMemory-clause-refused : goal.returns-in-Err-NoMemory-clause-refused
returns-in-Err-NoMemory-clause-refused g c =
    rw (c.none_refused-in-Err-NoMemory.ensures.0, c.none_refused-in-Err-NoMemory.ensures.1) (λ incoming. Undone (record { why = inr (refl, refl); output = (refl, refl); world = refl }))
